-- How modules are listed.
use Rattle.std.specs.Prelude.{List, ℕ, ◌++◌, length, flat_map, codes}
use Rattle.wat_core.specs.Module.{ModuleModel, ModuleKindModel, text, binary}
use Rattle.wat_show.specs.Fields.{byte_count, field_text}
use Rattle.wat_show.specs.Words.{counted}

-- `text`, the number of fields, and then the listings of the fields
abbrev pub text_lines : ℕ → List ℕ → List ℕ
text_lines count fields = counted (codes "module text ") count ++ fields

-- `binary`, and the total number of bytes of the pieces
abbrev pub binary_line : List (List ℕ) → List ℕ
binary_line pieces = counted (codes "module binary ") (byte_count pieces)

-- the fields in order, or the pieces
abbrev pub kind_text : ModuleKindModel → List ℕ
kind_text (text fs) = text_lines (length fs) (flat_map field_text fs)
kind_text (binary pieces) = binary_line pieces

abbrev pub module_text : ModuleModel → List ℕ
module_text m = kind_text m.kind

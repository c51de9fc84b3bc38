-- Entries of the dylink section: an export, an import.
use Rattle.std.specs.Prelude.{ℕ, List, codes}
use Rattle.wat_types.specs.Prelude.{Production, seq, made, group, text}
use Rattle.wat_links.specs.Flags.{symbol_flags}

-- ( export-info name flags )
unfoldable pub export_entry : Production (List ℕ × ℕ)
export_entry = group (codes "export-info") (seq text symbol_flags)

abbrev pub import_of : List ℕ × (List ℕ × ℕ) → List ℕ × List ℕ × ℕ
import_of v = (v.0, v.1.0, v.1.1)

-- ( import-info module name flags )
unfoldable pub import_entry : Production (List ℕ × List ℕ × ℕ)
import_entry = group (codes "import-info") (made import_of (seq text (seq text symbol_flags)))

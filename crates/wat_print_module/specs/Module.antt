-- How modules are written.
use Rattle.std.specs.Prelude.{◌≡◌, ℕ, false, List, [], codes, Option, Some, None, slice_get, ◌⊎◌}
use Rattle.std.proofs.Common.{inl, inr}
use Rattle.wat_core.specs.Prelude.{ModuleFieldModel, field_group, ModuleKindModel, text, binary, ModuleModel}
use Rattle.wat_print_instr.specs.Prelude.{Token, begins_word, more, Label, label, Form, seq_form, by, else_form, many_form, paren_form, after_form, label_form, NoneSpells}
use Rattle.wat_print_module.specs.Custom.{pieces_form}
use Rattle.wat_print_module.specs.Field.{field_form}

-- ( ModuleField )*
abbrev pub fields_form : Form (List ModuleFieldModel)
fields_form = many_form more field_form

-- binary bytes*
abbrev pub binary_form : Form (List (List ℕ))
binary_form = after_form (codes "binary") pieces_form

abbrev pub kind_parts : ModuleKindModel → List (List ℕ) ⊎ List ModuleFieldModel
kind_parts (binary ss) = inl ss
kind_parts (text fs) = inr fs

abbrev pub module_kind_form : Form ModuleKindModel
module_kind_form = by kind_parts (else_form (begins_word (codes "binary")) binary_form fields_form)

abbrev pub module_parts : ModuleModel → Label × ModuleKindModel
module_parts m = (m.label, m.kind)

-- module id? name? kind
abbrev pub module_form : Form ModuleModel
module_form = by module_parts (after_form (codes "module") (seq_form label_form module_kind_form))

-- ( module .. )
abbrev pub module_group_form : Form ModuleModel
module_group_form = paren_form module_form

abbrev pub spell_module_group : ModuleModel → List Token
spell_module_group m = module_group_form.spell m

-- ---- modules that are refused

abbrev pub fields_of_kind : ModuleKindModel → List ModuleFieldModel
fields_of_kind (text fs) = fs
fields_of_kind (binary ss) = []

-- the field with the number exists, and can't be written
abbrev pub UnprintableField : List ModuleFieldModel → Option ℕ → Type 0
UnprintableField fs (Some i) =
    (f : ModuleFieldModel) × (slice_get fs i ≡ Some f) × (field_form.printable f ≡ false)
UnprintableField fs None = ⊥

-- a field of the module, or, without a number, the identifier and the name of the module
abbrev pub UnprintablePart : ModuleModel → Option ℕ → Type 0
UnprintablePart m (Some i) = UnprintableField (fields_of_kind m.kind) (Some i)
UnprintablePart m None = label_form.printable m.label ≡ false

-- No text spells the field with the number in its parentheses. Without a number, no text spells the
-- identifier and the name of the module.
abbrev pub NonePart : ModuleModel → Option ℕ → Type 0
NonePart m (Some i) =
    (f : ModuleFieldModel) × (slice_get (fields_of_kind m.kind) i ≡ Some f)
    × NoneSpells field_group f
NonePart m None = NoneSpells label m.label

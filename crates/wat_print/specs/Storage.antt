-- How storage types, global types and types of fields are written.
use Rattle.std.specs.Prelude.{Bool, true, false, not, ◌||◌, codes, ◌⊎◌}
use Rattle.std.proofs.Common.{inl, inr}
use Rattle.wat_types.specs.Prelude.{begins_word, second, FieldTypeModel, StorageTypeModel, i8, i16, val, GlobalTypeModel, long_global, ValTypeModel}
use Rattle.wat_print.specs.Form.{Test, Form, word_form, flag_form, seq_form, by, told_form, else_form, paren_form, group_form, only_where_form}
use Rattle.wat_print.specs.Reference.{val_form}

abbrev pub storage_parts : StorageTypeModel → Unit {0} ⊎ (Unit {0} ⊎ ValTypeModel)
storage_parts i8 = inl tt
storage_parts i16 = inr (inl tt)
storage_parts (val t) = inr (inr t)

abbrev pub storage_form : Form StorageTypeModel
storage_form =
    by storage_parts (else_form (begins_word (codes "i8")) (word_form (codes "i8"))
    (else_form (begins_word (codes "i16")) (word_form (codes "i16")) val_form))

abbrev pub field_side : Bool → StorageTypeModel → StorageTypeModel ⊎ StorageTypeModel
field_side true t = inl t
field_side false t = inr t

abbrev pub field_parts : FieldTypeModel → StorageTypeModel ⊎ StorageTypeModel
field_parts f = field_side f.mutable f.ty

-- a storage type may be a single token, so the second token may belong to the rest
abbrev pub no_mut : Test
no_mut r = not (begins_word (codes "mut") r)

-- ( mut StorageType ), or the storage type if the field is immutable
abbrev pub field_form : Form FieldTypeModel
field_form =
    by field_parts (told_form no_mut (second (begins_word (codes "mut")))
    (group_form (codes "mut") storage_form) storage_form)

abbrev pub Long : Type 0
Long = Bool × (Bool × ValTypeModel)

abbrev pub global_side : Bool → Bool → ValTypeModel → Long ⊎ ValTypeModel
global_side false false t = inr t
global_side shared mutable t = inl (shared, (mutable, t))

abbrev pub global_parts : GlobalTypeModel → Long ⊎ ValTypeModel
global_parts g = global_side g.shared g.mutable g.ty

abbrev pub is_long : Long → Bool
is_long v = v.0 || v.1.0

abbrev pub no_long : Test
no_long r = not (begins_word (codes "shared") r || begins_word (codes "mut") r)

-- the value type; in parentheses after `shared` and `mut` if the type has either
abbrev pub global_form : Form GlobalTypeModel
global_form =
    by global_parts (told_form no_long long_global (only_where_form is_long
    (paren_form (seq_form (flag_form (codes "shared"))
    (seq_form (flag_form (codes "mut")) val_form)))) val_form)

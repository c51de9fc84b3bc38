-- Field types.
use Rattle.std.specs.Prelude.{Bool, true, false, codes}
use Rattle.wat_tokens.specs.Prelude.{Production, made, where_else, group, second_word}
use Rattle.wat_types.specs.Storage.{StorageTypeModel, storage_type}

pub record FieldTypeModel : Type 0 where
  pub mutable : Bool
  pub ty : StorageTypeModel

abbrev pub field_of : Bool → StorageTypeModel → FieldTypeModel
field_of m t = record { mutable = m; ty = t }

-- ( mut StorageType ) if the second token is `mut`; else StorageType
unfoldable pub field_type : Production FieldTypeModel
field_type =
    where_else (second_word (codes "mut"))
    (made (field_of true) (group (codes "mut") storage_type))
    (made (field_of false) storage_type)

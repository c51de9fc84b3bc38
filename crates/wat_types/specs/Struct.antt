-- Structure and array types.
use Rattle.std.specs.Prelude.{List, [], ◌∷◌, codes, map}
use Rattle.wat_tokens.specs.Prelude.{Production, seq, made, where_else, many, group, at_more}
use Rattle.wat_types.specs.Label.{Label, no_label, label_view, label, at_label}
use Rattle.wat_types.specs.Storage.{storage_view}
use Rattle.wat_types.specs.declared.structure.ArrayType.{ArrayType}
use Rattle.wat_types.specs.declared.structure.StructField.{StructField}
use Rattle.wat_types.specs.declared.structure.StructType.{StructType}
use Rattle.wat_types.specs.FieldType.{FieldTypeModel, field_of, field_type}
use Rattle.wat_types.specs.Laws.FieldType.{field_type_consumes}

-- ---- array types

abbrev pub array_view : ArrayType → FieldTypeModel
array_view a = field_of a.mutable (storage_view a.ty)

-- ---- the fields of a structure

-- a field with its label
pub record StructFieldModel : Type 0 where
  pub label : Label
  pub field : FieldTypeModel

abbrev pub member_of : Label → FieldTypeModel → StructFieldModel
member_of l f = record { label = l; field = f }

abbrev pub member_view : StructField → StructFieldModel
member_view f = member_of (label_view f.id f.name) (field_of f.mutable (storage_view f.ty))

abbrev pub members_view : List StructField → List StructFieldModel
members_view fs = map member_view fs

abbrev pub struct_view : StructType → List StructFieldModel
struct_view s = members_view s.fields.items

abbrev pub labelled_member : Label × FieldTypeModel → List StructFieldModel
labelled_member v = member_of v.0 v.1 ∷ []

abbrev pub plain_member : Production StructFieldModel
plain_member = made (member_of no_label) field_type

-- StructField*
unfoldable pub plain_members : Production (List StructFieldModel)
plain_members = many at_more plain_member field_type_consumes

-- id? name? StructField if a label begins; else StructField*
unfoldable pub members : Production (List StructFieldModel)
members = where_else at_label (made labelled_member (seq label field_type)) plain_members

-- ( field id? name? StructField ), with an id or a name | ( field StructField* )
unfoldable pub member_group : Production (List StructFieldModel)
member_group = group (codes "field") members

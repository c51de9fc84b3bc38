-- Tables.
use Rattle.std.specs.Prelude.{ℕ, Bool, true, ◌&&◌, List, codes, Option}
use Rattle.wat_links.specs.Prelude.{Token, Production, seq, made, where_else, opt, flag, after_word, group, option_view, at_more, Test, run, either_test, test_of, at_word, at_integer, label_view, is_64, TableTypeModel, table_type, RefTypeModel, ref_view, ref_type, at_ref, inline_export_view, FieldHeadModel, field_head, heapless_head, head, inline_import_view, inline_import}
use Rattle.wat_expr.specs.Prelude.{after, ExpressionModel, expression_view, heapless_expression, expression}
use Rattle.wat_tokens.specs.Views.{heapless_option}
use Rattle.wat_types.specs.Limits.{table_type_view}
use Rattle.wat_fields.specs.Payload.{ElemPayloadModel, payload_view, heapless_payload, ElemList, of_type, elem_list}
use Rattle.wat_fields.specs.declared.table.Table.{Table}
use Rattle.wat_fields.specs.declared.table.TableKind.{TableKind}
use Rattle.wat_fields.specs.declared.table.TableKind.TheVariants as code

-- ---- views

-- an import, by its names and a type; a type, with or without the initial value of each element; or
-- inline elements: the type of an element, whether addresses have 64 bits, whether the table is
-- shared, and the elements
pub data TableKindModel : Type 0 where
  imported : List ℕ × List ℕ → TableTypeModel → TableKindModel
  normal : TableTypeModel → Option ExpressionModel → TableKindModel
  inline : RefTypeModel → Bool → Bool → ElemPayloadModel → TableKindModel

pub record TableModel : Type 0 where
  pub head : FieldHeadModel
  pub kind : TableKindModel

abbrev pub table_of : FieldHeadModel → TableKindModel → TableModel
table_of h k = record { head = h; kind = k }

abbrev pub table_kind_view : TableKind → TableKindModel
table_kind_view (code.Import i t) = imported (inline_import_view i) (table_type_view t)
table_kind_view (code.Normal t e) = normal (table_type_view t) (option_view expression_view e)
table_kind_view (code.Inline t is64 shared p) = inline (ref_view t) is64 shared (payload_view p)

abbrev pub table_view : Table → TableModel
table_view t =
    table_of (field_head (label_view t.id t.name) (inline_export_view t.exports))
    (table_kind_view t.kind)

-- no instruction, and no element in line
abbrev pub heapless_table_kind : TableKindModel → Bool
heapless_table_kind (imported i t) = true
heapless_table_kind (normal t e) = heapless_option heapless_expression e
heapless_table_kind (inline t is64 shared p) = heapless_payload p

abbrev pub heapless_table : TableModel → Bool
heapless_table t = heapless_head t.head && heapless_table_kind t.kind

-- ---- the grammar

-- `shared`, `i32` or `i64`
abbrev pub at_prefix : Test
at_prefix =
    either_test (at_word (codes "shared"))
    (either_test (at_word (codes "i32")) (at_word (codes "i64")))

abbrev pub begins_prefix : List Token → Bool
begins_prefix t = run at_prefix t

-- a RefType, or one of the three words and then a RefType
abbrev pub at_inline_elems : Test
at_inline_elems = either_test at_ref (test_of (after at_prefix.asks at_ref.asks) at_ref.calm)

abbrev pub begins_inline_elems : List Token → Bool
begins_inline_elems t = run at_inline_elems t

-- one of the three words, or an Integer
abbrev pub at_normal : Test
at_normal = either_test at_prefix at_integer

abbrev pub begins_normal : List Token → Bool
begins_normal t = run at_normal t

abbrev pub inline_of : Bool × (Bool × (RefTypeModel × ElemList)) → TableKindModel
inline_of v = inline v.1.1.0 v.1.0 v.0 (of_type v.1.1.0 v.1.1.1)

-- `shared`? ( `i32` | `i64` )? RefType ( elem payload )
unfoldable pub inline_table : Production TableKindModel
inline_table =
    made inline_of (seq (flag (codes "shared"))
    (seq is_64 (seq ref_type (group (codes "elem") elem_list))))

-- TableType, and then an Expression if the group goes on
unfoldable pub normal_table : Production TableKindModel
normal_table = made (λ v. normal v.0 v.1) (seq table_type (opt at_more expression))

-- InlineImport TableType
unfoldable pub imported_table : Production TableKindModel
imported_table = made (λ v. imported v.0 v.1) (seq inline_import table_type)

-- inline elements if a RefType is next, or one of `shared`, `i32`, `i64` and then a RefType; a type
-- if one of these words or an Integer is next; otherwise an import
unfoldable pub table_kind : Production TableKindModel
table_kind =
    where_else at_inline_elems inline_table
    (where_else at_normal normal_table imported_table)

-- `table` head, and then a kind
unfoldable pub table : Production TableModel
table = after_word (codes "table") (made (λ v. table_of v.0 v.1) (seq head table_kind))

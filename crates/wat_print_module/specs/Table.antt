-- How tables are written.
use Rattle.std.specs.Prelude.{ℕ, Bool, false, not, ◌&&◌, List, [], ◌∷◌, codes, Option, ◌⊎◌}
use Rattle.std.proofs.Common.{inl, inr}
use Rattle.wat_core.specs.Prelude.{beq, FieldHeadModel, ElemPayloadModel, indices, exprs, is_funcref, TableKindModel, inline, TableModel, begins_inline_elems}
use Rattle.wat_print_instr.specs.Prelude.{bytes_eq, IndexModel, same_index, begins_lparen, no_items, HeapTypeModel, concrete, exact, abstract_, abstract_word, TableTypeModel, RefTypeModel, begins_ref, ExpressionModel, Test, Form, seq_form, behind_form, by, by_where, else_form, after_form, group_form, width_form, table_parts, table_form, spell_option, if_some, ref_form, plain_form}
use Rattle.wat_fields.specs.Table.{imported, normal, begins_normal}
use Rattle.wat_print.specs.Form.{flag_form}
use Rattle.wat_print.specs.Limits.{limits_form}
use Rattle.wat_print_module.specs.Elem.{elem_items_form, elem_indices_form}
use Rattle.wat_print_module.specs.Expression.{ends_expression, expression_form}
use Rattle.wat_print_module.specs.FieldHead.{inline_import_form, head_form}

-- p, but only for values that pass `ok`
abbrev pub where_form : {A : Type 0} → (A → Bool) → Form A → Form A
where_form ok p = record p {
  printable = λ v. ok v && p.printable v;
  ready = λ v. ok v && p.ready v;
}

-- ---- equality of reference types

abbrev pub same_heap : HeapTypeModel → HeapTypeModel → Bool
same_heap (concrete i) (concrete j) = same_index i j
same_heap (exact i) (exact j) = same_index i j
same_heap (abstract_ a t) (abstract_ b u) = beq a b && bytes_eq (abstract_word t) (abstract_word u)
same_heap _ _ = false

abbrev pub same_ref : RefTypeModel → RefTypeModel → Bool
same_ref t u = beq t.nullable u.nullable && same_heap t.heap u.heap

-- ---- elements

abbrev pub some_items : {A : Type 0} → List A → Bool
some_items vs = not (no_items vs)

-- ( item Expression )* | idx*; a list without items is read as indices
abbrev pub listed_form : Form (List ExpressionModel ⊎ List IndexModel)
listed_form = else_form begins_lparen (where_form some_items elem_items_form) elem_indices_form

abbrev pub listed_parts : ElemPayloadModel → List ExpressionModel ⊎ List IndexModel
listed_parts (indices is) = inr is
listed_parts (exprs t []) = inr []
listed_parts (exprs t (e ∷ es)) = inl (e ∷ es)

-- Elements of a table with the element type t: indices if t is `funcref`, or expressions of type t.
-- If t is `funcref`, there is at least one expression.
abbrev pub printable_elements : RefTypeModel → ElemPayloadModel → Bool
printable_elements t (indices is) = is_funcref t && elem_indices_form.printable is
printable_elements t (exprs u es) =
    same_ref t u && (not (is_funcref t && no_items es) && elem_items_form.printable es)

abbrev pub elements_form : RefTypeModel → Form ElemPayloadModel
elements_form t = by_where (printable_elements t) listed_parts listed_form

-- ---- kinds

-- RefType ( elem list )
abbrev pub elems_form : Form (RefTypeModel × (List ExpressionModel ⊎ List IndexModel))
elems_form = seq_form ref_form (group_form (codes "elem") listed_form)

abbrev pub InlineTree : Type 0
InlineTree = Bool × (Bool × (RefTypeModel × (List ExpressionModel ⊎ List IndexModel)))

-- shared? i64? elems
abbrev pub inline_table_form : Form InlineTree
inline_table_form = seq_form (flag_form (codes "shared")) (seq_form width_form elems_form)

-- not both shared and of 64 bits
abbrev pub apart : InlineTree → Bool
apart v = not (v.0 && v.1.0)

-- no reference type is next
abbrev pub no_ref : Test
no_ref r = not (begins_ref r)

-- a table type; no reference type follows its `shared`
abbrev pub type_form : Form TableTypeModel
type_form =
    by table_parts (behind_form no_ref (flag_form (codes "shared"))
    (seq_form limits_form ref_form))

-- the initial value of the elements has an instruction
abbrev pub printable_initial : ExpressionModel → Bool
printable_initial e = some_items e.instrs && expression_form.printable e

-- Expression?
abbrev pub initial_form : Form (Option ExpressionModel)
initial_form =
    plain_form (spell_option expression_form.spell) (if_some printable_initial) ends_expression

-- TableType Expression?
abbrev pub normal_table_form : Form (TableTypeModel × Option ExpressionModel)
normal_table_form = seq_form type_form initial_form

-- InlineImport TableType
abbrev pub imported_table_form : Form ((List ℕ × List ℕ) × TableTypeModel)
imported_table_form = seq_form inline_import_form table_form

abbrev pub KindTree : Type 0
KindTree = InlineTree ⊎ (TableTypeModel × Option ExpressionModel ⊎ (List ℕ × List ℕ)
    × TableTypeModel)

abbrev pub table_kind_parts : TableKindModel → KindTree
table_kind_parts (inline t is64 shared p) = inl (shared, (is64, (t, listed_parts p)))
table_kind_parts (normal t e) = inr (inl (t, e))
table_kind_parts (imported i t) = inr (inr (i, t))

-- a table with inline elements isn't both shared and of 64 bits
abbrev pub printable_table_kind : TableKindModel → Bool
printable_table_kind (inline t is64 shared p) =
    not (shared && is64) && (ref_form.printable t && printable_elements t p)
printable_table_kind (normal t e) = normal_table_form.printable (t, e)
printable_table_kind (imported i t) = imported_table_form.printable (i, t)

abbrev pub table_kind_form : Form TableKindModel
table_kind_form =
    by_where printable_table_kind table_kind_parts
    (else_form begins_inline_elems (where_form apart inline_table_form)
    (else_form begins_normal normal_table_form imported_table_form))

-- ---- tables

abbrev pub table_field_parts : TableModel → FieldHeadModel × TableKindModel
table_field_parts t = (t.head, t.kind)

-- table head kind
abbrev pub table_field_form : Form TableModel
table_field_form =
    by table_field_parts (after_form (codes "table") (seq_form head_form table_kind_form))

-- How element segments and their elements are written.
use Rattle.std.specs.Prelude.{ℕ, false, List, codes, Option, Some, None, is_none, ◌⊎◌}
use Rattle.std.proofs.Common.{inl, inr}
use Rattle.wat_print_instr.specs.Prelude.{IndexModel, begins_word, begins_group, begins_integer, more, Label, RefTypeModel, begins_ref, ExpressionModel, any, Form, word_form, seq_form, by, by_where, else_form, option_form, many_form, blank_form, after_form, group_form, unwritten_form, index_form, label_form, ref_form, unsigned_form}
use Rattle.wat_fields.specs.Elem.{ElemKindModel, declared, Segment, ElemModel, passive, active, begins_active}
use Rattle.wat_fields.specs.Payload.{ElemPayloadModel, indices, exprs}
use Rattle.wat_print.specs.Form.{only_where_form}
use Rattle.wat_print_module.specs.Data.{offset_form}
use Rattle.wat_print_module.specs.Expression.{expression_form}

-- ---- elements

-- ( item Expression )
abbrev pub elem_item_form : Form ExpressionModel
elem_item_form = group_form (codes "item") expression_form

-- ( item Expression )*
abbrev pub elem_items_form : Form (List ExpressionModel)
elem_items_form = many_form more elem_item_form

-- idx*
abbrev pub elem_indices_form : Form (List IndexModel)
elem_indices_form = many_form more index_form

-- RefType ( item Expression )*
abbrev pub typed_elems_form : Form (RefTypeModel × List ExpressionModel)
typed_elems_form = seq_form ref_form elem_items_form

abbrev pub payload_parts : ElemPayloadModel → List IndexModel ⊎ RefTypeModel × List ExpressionModel
payload_parts (indices is) = inl is
payload_parts (exprs t es) = inr (t, es)

-- `func` and indices, or items of a type
abbrev pub payload_form : Form ElemPayloadModel
payload_form =
    by payload_parts (else_form (begins_word (codes "func"))
    (after_form (codes "func") elem_indices_form) typed_elems_form)

-- indices without `func` are only read
abbrev pub indices_only_form : Form (List IndexModel)
indices_only_form = record (unwritten_form elem_indices_form) { empty = false }

abbrev pub any_payload_parts : ElemPayloadModel
    → List IndexModel ⊎ (RefTypeModel × List ExpressionModel ⊎ List IndexModel)
any_payload_parts (indices is) = inl is
any_payload_parts (exprs t es) = inr (inl (t, es))

-- the same, where indices may also be read without `func`
abbrev pub any_payload_form : Form ElemPayloadModel
any_payload_form =
    by any_payload_parts (else_form (begins_word (codes "func"))
    (after_form (codes "func") elem_indices_form)
    (else_form begins_ref typed_elems_form indices_only_form))

-- ---- segments

-- ( table idx )
abbrev pub elem_table_form : Form IndexModel
elem_table_form = group_form (codes "table") index_form

abbrev pub elem_kind_parts : ElemKindModel
    → Unit {0} ⊎ (Unit {0} ⊎ Option IndexModel × ExpressionModel)
elem_kind_parts passive = inl tt
elem_kind_parts declared = inr (inl tt)
elem_kind_parts (active t e) = inr (inr (t, e))

-- nothing; `declare`; or the table, if the segment has one, and the offset
abbrev pub elem_kind_form : Form ElemKindModel
elem_kind_form =
    by elem_kind_parts (else_form any blank_form (else_form any (word_form (codes "declare"))
    (seq_form (option_form any elem_table_form) offset_form)))

-- the mode and the elements
abbrev pub mode_form : Form Segment
mode_form = seq_form elem_kind_form payload_form

abbrev pub SegmentTree : Type 0
SegmentTree =
    ElemPayloadModel ⊎ ((IndexModel × (ExpressionModel × ElemPayloadModel) ⊎ Option ℕ
    × (ExpressionModel × ElemPayloadModel)) ⊎ ElemPayloadModel)

abbrev pub segment_parts : Segment → SegmentTree
segment_parts (declared, p) = inl p
segment_parts (active (Some i) e, p) = inr (inl (inl (i, (e, p))))
segment_parts (active None e, p) = inr (inl (inr (None, (e, p))))
segment_parts (passive, p) = inr (inr p)

-- declare Payload; a table, an offset and a payload; an offset and a payload, behind a number that
-- is only read; or a payload
abbrev pub segment_tree : Form SegmentTree
segment_tree =
    else_form (begins_word (codes "declare")) (after_form (codes "declare") payload_form)
    (else_form begins_active (else_form (begins_group (codes "table"))
    (seq_form elem_table_form (seq_form offset_form payload_form))
    (seq_form (only_where_form (λ n. is_none n) (option_form begins_integer (unsigned_form 32)))
    (seq_form offset_form any_payload_form))) payload_form)

abbrev pub segment_form : Form Segment
segment_form =
    record (by_where mode_form.printable segment_parts segment_tree) { spell = mode_form.spell }

abbrev pub elem_parts : ElemModel → Label × Segment
elem_parts e = (e.label, e.segment)

-- elem id? name? segment
abbrev pub elem_form : Form ElemModel
elem_form = by elem_parts (after_form (codes "elem") (seq_form label_form segment_form))

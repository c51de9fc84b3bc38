-- Element segments.
use Rattle.std.specs.Prelude.{Bool, true, ◌&&◌, List, codes, Option, Some}
use Rattle.wat_expr.specs.Prelude.{Token, Production, seq, made, where_else, opt, after_word, group, IndexModel, number, index_view, index, unsigned, option_view, at_word, at_group, at_integer, Test, run, either_test, test_of, at_lparen, Label, label_view, label, at_ref, ExpressionModel, expression_view, heapless_expression}
use Rattle.wat_tokens.specs.Test.{both, opposite}
use Rattle.wat_fields.specs.Payload.{ElemPayloadModel, payload_view, heapless_payload, payload, payload_or_indices}
use Rattle.wat_fields.specs.Item.{written_or_folded}
use Rattle.wat_fields.specs.declared.elem.ElemKind.{ElemKind}
use Rattle.wat_fields.specs.declared.elem.Elem.{Elem}
use Rattle.wat_fields.specs.declared.payload.ElemPayload.{ElemPayload}
use Rattle.wat_fields.specs.declared.elem.ElemKind.TheVariants as code

-- ---- views

-- passive; declared; or active, in a table if a table is written, and at an offset
pub data ElemKindModel : Type 0 where
  passive : ElemKindModel
  declared : ElemKindModel
  active : Option IndexModel → ExpressionModel → ElemKindModel

-- the mode and the elements of a segment
abbrev pub Segment : Type 0
Segment = ElemKindModel × ElemPayloadModel

pub record ElemModel : Type 0 where
  pub label : Label
  pub segment : Segment

abbrev pub elem_of : Label → Segment → ElemModel
elem_of l s = record { label = l; segment = s }

abbrev pub elem_kind_view : ElemKind → ElemKindModel
elem_kind_view code.Passive = passive
elem_kind_view code.Declared = declared
elem_kind_view (code.Active t e) = active (option_view index_view t) (expression_view e)

abbrev pub segment_view : ElemKind × ElemPayload → Segment
segment_view s = (elem_kind_view s.0, payload_view s.1)

abbrev pub elem_view : Elem → ElemModel
elem_view e = elem_of (label_view e.id e.name) (segment_view (e.kind, e.payload))

-- no instruction in the offset
abbrev pub heapless_elem_kind : ElemKindModel → Bool
heapless_elem_kind passive = true
heapless_elem_kind declared = true
heapless_elem_kind (active t e) = heapless_expression e

abbrev pub heapless_segment : Segment → Bool
heapless_segment s = heapless_elem_kind s.0 && heapless_payload s.1

abbrev pub heapless_elem : ElemModel → Bool
heapless_elem e = heapless_segment e.segment

-- ---- the grammar

-- ( offset Expression ) if the second token is `offset`; otherwise a folded instruction
unfoldable pub elem_offset : Production ExpressionModel
elem_offset = written_or_folded (codes "offset")

-- an active segment, made of its table, its offset and its elements
abbrev pub active_of : Option IndexModel × (ExpressionModel × ElemPayloadModel) → Segment
active_of v = (active v.0 v.1.0, v.1.1)

-- ( table idx ), and then an offset and a payload
unfoldable pub in_table : Production Segment
in_table =
    made active_of (seq (made (λ i. Some i) (group (codes "table") index))
    (seq elem_offset payload))

-- u32 if an Integer is next
unfoldable pub table_number : Production (Option IndexModel)
table_number = opt at_integer (made number (unsigned 32))

-- u32 or nothing, and then an offset and a payload, which can be indices alone
unfoldable pub in_some_table : Production Segment
in_some_table = made active_of (seq table_number (seq elem_offset payload_or_indices))

-- `declare` payload
unfoldable pub declared_segment : Production Segment
declared_segment = made (λ p. (declared, p)) (after_word (codes "declare") payload)

-- payload
unfoldable pub passive_segment : Production Segment
passive_segment = made (λ p. (passive, p)) payload

-- an Integer, or `(` that doesn't begin a RefType
abbrev pub at_active : Test
at_active =
    either_test at_integer (test_of (both at_lparen.asks (opposite at_ref.asks)) at_ref.calm)

abbrev pub begins_active : List Token → Bool
begins_active t = run at_active t

-- in a written table if `(` and `table` are next; otherwise in the table of the number, or in a
-- table that isn't written
unfoldable pub active_segment : Production Segment
active_segment = where_else (at_group (codes "table")) in_table in_some_table

-- declared if `declare` is next; active if an Integer is next, or `(` that doesn't begin a RefType;
-- otherwise passive
unfoldable pub segment : Production Segment
segment =
    where_else (at_word (codes "declare")) declared_segment
    (where_else at_active active_segment passive_segment)

-- `elem id? name?`, and then the mode and the elements
unfoldable pub elem : Production ElemModel
elem = after_word (codes "elem") (made (λ v. elem_of v.0 v.1) (seq label segment))

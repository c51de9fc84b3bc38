-- The elements of an element segment.
use Rattle.std.specs.Prelude.{Bool, true, false, if◌then◌else◌, ◌&&◌, List, [], ◌∷◌, codes, map}
use Rattle.std.proofs.Common.{lit≤}
use Rattle.wat_expr.specs.Prelude.{Production, seq, made, where_else, after_word, many, IndexModel, index_view, index, no_items, at_word, at_lparen, at_more, HeapTypeModel, abstract_, RefTypeModel, ref_view, ref_type, at_ref, instr_of, ExpressionModel, expression_view}
use Rattle.wat_fields.specs.declared.payload.ElemPayload.{ElemPayload}
use Rattle.wat_fields.specs.Item.{item}
use Rattle.wat_fields.specs.Laws.Payload.{item_consumes}
use Rattle.wat_types.specs.declared.heap.AbstractHeapType.TheVariants as heap_word
use Rattle.wat_mnemonics.specs.declared.op.Op.TheVariants as word
use Rattle.wat_mnemonics.specs.declared.indexed.IndexedOp.TheVariants as op
use Rattle.wat_instr.specs.Operand as operands
use Rattle.wat_fields.specs.declared.payload.ElemPayload.TheVariants as code

-- ---- views

-- indices of functions; or expressions, and the type of each expression
pub data ElemPayloadModel : Type 0 where
  indices : List IndexModel → ElemPayloadModel
  exprs : RefTypeModel → List ExpressionModel → ElemPayloadModel

abbrev pub payload_view : ElemPayload → ElemPayloadModel
payload_view (code.Indices v) = indices (map index_view v.items)
payload_view (code.Exprs t v) = exprs (ref_view t) (map expression_view v.items)

-- no index and no expression
abbrev pub heapless_payload : ElemPayloadModel → Bool
heapless_payload (indices v) = no_items v
heapless_payload (exprs t v) = no_items v

-- ---- expressions

-- item*, to the end
unfoldable pub item_list : Production (List ExpressionModel)
item_list = many at_more item item_consumes

-- ---- indices

-- idx*, to the end
unfoldable pub index_list : Production (List IndexModel)
index_list = many at_more index (lit≤ tt)

-- the one instruction `ref.func` of an index
abbrev pub ref_func_of : IndexModel → ExpressionModel
ref_func_of i =
    record { instrs = instr_of (word.Indexed op.ref_func) (operands.one_index i) ∷ []; hints = [] }

abbrev pub is_func : HeapTypeModel → Bool
is_func (abstract_ false heap_word.Func) = true
is_func _ = false

-- the type `funcref`
abbrev pub is_funcref : RefTypeModel → Bool
is_funcref t = t.nullable && is_func t.heap

-- ---- after an inline type

-- indices as they are written, or expressions
pub data ElemList : Type 0 where
  by_index : List IndexModel → ElemList
  by_item : List ExpressionModel → ElemList

-- the listed elements, as a payload of the type: indices stay indices if the type is `funcref`;
-- otherwise each index becomes a `ref.func`
abbrev pub of_type : RefTypeModel → ElemList → ElemPayloadModel
of_type t (by_index is) = if is_funcref t then indices is else exprs t (map ref_func_of is)
of_type t (by_item es) = exprs t es

-- items if `(` is next, otherwise indices
unfoldable pub elem_list : Production ElemList
elem_list = where_else at_lparen (made by_item item_list) (made by_index index_list)

-- ---- in a segment

-- RefType items
unfoldable pub typed_elems : Production ElemPayloadModel
typed_elems = made (λ v. exprs v.0 v.1) (seq ref_type item_list)

-- `func` indices if `func` is next; otherwise RefType items
unfoldable pub payload : Production ElemPayloadModel
payload = where_else (at_word (codes "func"))
    (made indices (after_word (codes "func") index_list)) typed_elems

-- `func` indices if `func` is next; RefType items if a type is next; otherwise indices
unfoldable pub payload_or_indices : Production ElemPayloadModel
payload_or_indices =
    where_else (at_word (codes "func")) (made indices (after_word (codes "func") index_list))
    (where_else at_ref typed_elems (made indices index_list))

-- Where the expressions of fields keep spans.
--
-- An expression that is read as an expression or as a folded instruction has one span for each
-- instruction if the parser tracks spans, and otherwise no spans (`SpansAre`). Two kinds of
-- expressions never have spans: the `ref.func` that an index of an inline table becomes, and the
-- abbreviated offset of a data segment, if the offset is one instruction without operands.
-- `SpansAre false` means that an expression has no spans.
use Rattle.std.specs.Prelude.{Bool, true, false, ◌&&◌, ◌||◌, List, [], ◌∷◌, codes, Some, None, All, IfSome}
use Rattle.wat_links.specs.Prelude.{Token, begins_word, begins_lparen, second, IndexModel, Production, Read, seq, flag, after_word, Label, label, is_64, RefTypeModel, ref_type, FieldHeadModel, head}
use Rattle.wat_expr.specs.Expression.{SpansAre}
use Rattle.wat_expr.specs.declared.expression.Expression.{Expression}
use Rattle.wat_fields.specs.Data.{data_memory}
use Rattle.wat_fields.specs.declared.data.DataKind.{DataKind}
use Rattle.wat_fields.specs.declared.elem.ElemKind.{ElemKind}
use Rattle.wat_fields.specs.declared.func.FuncKind.{FuncKind}
use Rattle.wat_fields.specs.declared.global.GlobalKind.{GlobalKind}
use Rattle.wat_fields.specs.declared.payload.ElemPayload.{ElemPayload}
use Rattle.wat_fields.specs.declared.table.TableKind.{TableKind}
use Rattle.wat_fields.specs.declared.data.DataKind.TheVariants as data_code
use Rattle.wat_fields.specs.declared.elem.ElemKind.TheVariants as elem_code
use Rattle.wat_fields.specs.declared.func.FuncKind.TheVariants as func_code
use Rattle.wat_fields.specs.declared.global.GlobalKind.TheVariants as global_code
use Rattle.wat_fields.specs.declared.payload.ElemPayload.TheVariants as payload_code
use Rattle.wat_fields.specs.declared.table.TableKind.TheVariants as table_code

-- ---- functions and globals

-- the spans of a function's body
abbrev pub FuncSpansAre : Bool → FuncKind → Type 0
FuncSpansAre tracks (func_code.Import i b) = Unit {0}
FuncSpansAre tracks (func_code.Inline ls e) = SpansAre tracks e

-- the spans of a global's initial value
abbrev pub GlobalSpansAre : Bool → GlobalKind → Type 0
GlobalSpansAre tracks (global_code.Import i) = Unit {0}
GlobalSpansAre tracks (global_code.Inline e) = SpansAre tracks e

-- ---- data segments

abbrev pub is_many : {A : Type 0} → List A → Bool
is_many [] = false
is_many (x ∷ []) = false
is_many (x ∷ y ∷ r) = true

-- more than one instruction: the last instruction has operands
abbrev pub has_operands : Expression → Bool
has_operands e = is_many e.instrs.items

-- the spans of an offset, written with the word `offset` or abbreviated: an abbreviated offset
-- without operands has no spans
abbrev pub OffsetSpansAre : Bool → Bool → Expression → Type 0
OffsetSpansAre is_written tracks e = SpansAre ((is_written || has_operands e) && tracks) e

-- the spans of the offset of an active segment
abbrev pub DataSpansAre : Bool → Bool → DataKind → Type 0
DataSpansAre is_written tracks data_code.Passive = Unit {0}
DataSpansAre is_written tracks (data_code.Active m e) = OffsetSpansAre is_written tracks e

-- the second token after the tokens that were read is `offset`
abbrev pub offset_behind : {A : Type 0} → Read A → Bool
offset_behind (Some x) = second (begins_word (codes "offset")) x.1
offset_behind None = false

-- a data segment up to its offset: `data id? name?` and a memory
unfoldable pub data_front : Production (Label × IndexModel)
data_front = after_word (codes "data") (seq label data_memory)

-- the offset of the data segment is written with the word `offset`
abbrev pub is_offset_written : List Token → Bool
is_offset_written t = offset_behind (data_front.reads t)

-- ---- the contents of element segments

-- the spans of each expression of a payload
abbrev pub PayloadSpansAre : Bool → ElemPayload → Type 0
PayloadSpansAre keeps (payload_code.Indices v) = Unit {0}
PayloadSpansAre keeps (payload_code.Exprs t v) = All (λ e. SpansAre keeps e) v.items

-- the spans of the offset of an active segment
abbrev pub ElemKindSpansAre : Bool → ElemKind → Type 0
ElemKindSpansAre tracks elem_code.Passive = Unit {0}
ElemKindSpansAre tracks elem_code.Declared = Unit {0}
ElemKindSpansAre tracks (elem_code.Active t e) = SpansAre tracks e

-- the spans of the offset and of each expression of an element segment
abbrev pub ElemSpansAre : Bool → ElemKind × ElemPayload → Type 0
ElemSpansAre tracks s = ElemKindSpansAre tracks s.0 × PayloadSpansAre tracks s.1

-- ---- tables

-- the spans of the initial value of a table, or of its inline items: an inline index has no spans
abbrev pub TableSpansAre : Bool → Bool → TableKind → Type 0
TableSpansAre of_items tracks (table_code.Import i t) = Unit {0}
TableSpansAre of_items tracks (table_code.Normal t e) = IfSome e (λ x. SpansAre tracks x)
TableSpansAre of_items tracks (table_code.Inline t is64 shared p) =
    PayloadSpansAre (of_items && tracks) p

-- the third token after the tokens that were read is `(`
abbrev pub items_behind : {A : Type 0} → Read A → Bool
items_behind (Some x) = second (second begins_lparen) x.1
items_behind None = false

-- a table with inline elements, from after its head up to `( elem`
unfoldable pub inline_front : Production (Bool × (Bool × RefTypeModel))
inline_front = seq (flag (codes "shared")) (seq is_64 ref_type)

-- the spans of what follows the head of a table, by its tokens
abbrev pub KindSpansAre : List Token → Bool → TableKind → Type 0
KindSpansAre t tracks k = TableSpansAre (items_behind (inline_front.reads t)) tracks k

-- a table with inline elements, up to `( elem`
unfoldable pub table_front : Production (FieldHeadModel × (Bool × (Bool × RefTypeModel)))
table_front = after_word (codes "table") (seq head inline_front)

-- after `( elem` items are listed, which begin with `(`
abbrev pub has_items : List Token → Bool
has_items t = items_behind (table_front.reads t)

-- How memory accesses and orderings are written.
use Rattle.std.specs.Prelude.{ℕ, Bool, true, not, ◌&&◌, ◌||◌, ◌==◌, codes, Option, Some, None, is_none, option_map, ◌⊎◌}
use Rattle.std.proofs.Common.{inl, inr}
use Rattle.wat_expr.specs.Prelude.{is_power_of_two, IndexModel, begins_word, LaneAccessModel, goes_on, MemArgTargetModel, memory, array, array_follows, begins_with, MemArgModel, begins_ordering, LaneArg, MemArgOrdering, Ordering, AcqRel, SeqCst}
use Rattle.wat_print.specs.Prelude.{Test, any, Form, word_form, seq_form, by, by_where, told_form, else_form, option_form, group_form, index_form, is_u64}
use Rattle.wat_operands.specs.declared.memory.MemArgOrdering.TheVariants.{Op, Rmw}
use Rattle.wat_print_instr.specs.Form.{default_form, next_form}
use Rattle.wat_print_instr.specs.Numbers.{numbered_form, unsigned_form}
use Rattle.wat_print_instr.specs.Indices.{index_or_0_form}

-- ---- targets, offsets and alignments

-- the first token isn't the word `type`
abbrev pub no_type : Test
no_type r = not (begins_word (codes "type") r)

abbrev pub target_parts : MemArgTargetModel → IndexModel ⊎ IndexModel
target_parts (array i) = inl i
target_parts (memory i) = inr i

-- ( type idx ), or a memory, which is omitted if it is 0
abbrev pub target_form : Form MemArgTargetModel
target_form =
    by target_parts (told_form no_type array_follows (group_form (codes "type") index_form)
    index_or_0_form)

-- the offset unless the offset is 0
abbrev pub offset_form : Form ℕ
offset_form =
    default_form is_u64 (begins_with (codes "offset=")) (λ n. n == 0)
    (numbered_form (codes "offset=") is_u64)

-- a power of two of 64 bits
abbrev pub is_alignment : ℕ → Bool
is_alignment n = is_power_of_two n && is_u64 n

-- the alignment unless the alignment is the default a
abbrev pub align_form : ℕ → Form ℕ
align_form a =
    default_form (λ n. (n == a) || is_alignment n) (begins_with (codes "align=")) (λ n. n == a)
    (numbered_form (codes "align=") is_alignment)

abbrev pub fields_form : ℕ → Form (ℕ × ℕ)
fields_form a = next_form any offset_form (align_form a)

-- a target, an offset and an alignment, with the default alignment a
abbrev pub Address : Type 0
Address = MemArgTargetModel × (ℕ × ℕ)

abbrev pub address_form : ℕ → Form Address
address_form a = next_form no_type target_form (fields_form a)

abbrev pub address_of : MemArgModel → Address
address_of m = (m.target, (m.offset, m.align))

-- an access without an ordering
abbrev pub printable_access : ℕ → MemArgModel → Bool
printable_access a m = (address_form a).printable (address_of m) && is_none m.ordering

abbrev pub access_form : ℕ → Form MemArgModel
access_form a = by_where (printable_access a) address_of (address_form a)

-- ---- orderings

abbrev pub ordering_parts : Ordering → Unit {0} ⊎ Unit {0}
ordering_parts SeqCst = inl tt
ordering_parts AcqRel = inr tt

abbrev pub ordering_form : Form Ordering
ordering_form =
    by_where (λ _. true) ordering_parts (else_form (begins_word (codes "seqcst"))
    (word_form (codes "seqcst")) (word_form (codes "acqrel")))

-- an optional ordering
abbrev pub fence_form : Form (Option Ordering)
fence_form = option_form begins_ordering ordering_form

-- an ordering, and the operand after it
abbrev pub ordered_form : {A : Type 0} → Form A → Form (Ordering × A)
ordered_form p = seq_form ordering_form p

abbrev pub ordering_in : MemArgOrdering → Ordering
ordering_in (Op o) = o
ordering_in (Rmw o) = o

abbrev pub atomic_parts : MemArgModel → Address × Option Ordering
atomic_parts m = (address_of m, option_map ordering_in m.ordering)

-- no ordering; or `Rmw` for a read-modify-write instruction, and `Op` for any other instruction
abbrev pub printable_ordering : Bool → Option MemArgOrdering → Bool
printable_ordering rmw None = true
printable_ordering rmw (Some (Op o)) = not rmw
printable_ordering rmw (Some (Rmw o)) = rmw

abbrev pub printable_atomic : ℕ → Bool → MemArgModel → Bool
printable_atomic a rmw m =
    (address_form a).printable (address_of m) && printable_ordering rmw m.ordering

-- an atomic access, with the default alignment a
abbrev pub atomic_form : ℕ → Bool → Form MemArgModel
atomic_form a rmw =
    by_where (printable_atomic a rmw) atomic_parts (next_form no_type (address_form a) fence_form)

-- ---- lanes

abbrev pub lane_form : Form LaneArg
lane_form = by (λ l. l.lane) (unsigned_form 8)

abbrev pub lane_access_parts : LaneAccessModel → Address × LaneArg
lane_access_parts l = (address_of l.memarg, l.lane)

abbrev pub printable_lane_access : ℕ → LaneAccessModel → Bool
printable_lane_access a l = printable_access a l.memarg && lane_form.printable l.lane

-- an access and its lane, with the default alignment a
abbrev pub lane_access_form : ℕ → Form LaneAccessModel
lane_access_form a =
    record (by_where (printable_lane_access a) lane_access_parts
    (seq_form (address_form a) lane_form)) { follows = λ r. not (goes_on r) }

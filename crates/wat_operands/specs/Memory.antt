-- The operand of an access to a memory or an array: a target, an offset, an alignment and an
-- ordering.
use Rattle.std.specs.Prelude.{ℕ, Bool, if◌then◌else◌, List, codes, Option, None, option_map, unwrap_or}
use Rattle.wat_types.specs.Prelude.{word_from, Test, run, at_kind, second_word, Token, begins_word, second, Production, seq, made, where_else, opt, group, IndexModel, index_view, index, restated}
use Rattle.wat_operands.specs.Ordering.{ordering, at_ordering}
use Rattle.wat_operands.specs.Tables.{index_or_0}
use Rattle.wat_operands.specs.declared.memory.MemArg.{MemArg}
use Rattle.wat_operands.specs.declared.memory.MemArgOrdering.{MemArgOrdering}
use Rattle.wat_operands.specs.declared.memory.MemArgOrdering.TheVariants.{Op, Rmw}
use Rattle.wat_operands.specs.declared.memory.MemArgTarget.{MemArgTarget}
use Rattle.wat_operands.specs.declared.ordering.Ordering.{Ordering}
use Rattle.wat_operands.specs.Align.{field, AlignSpells, align_tested}
use Rattle.wat_operands.specs.Laws.Memory.{align_to, align_from}
use Rattle.wat_operands.specs.declared.memory.MemArgTarget.TheVariants as code

-- ---- targets

-- a memory, or an array of a type, without the position of the index
pub data MemArgTargetModel : Type 0 where
  memory : IndexModel → MemArgTargetModel
  array : IndexModel → MemArgTargetModel

abbrev pub target_view : MemArgTarget → MemArgTargetModel
target_view (code.Memory i) = memory (index_view i)
target_view (code.Array i) = array (index_view i)

-- the second token is `type`, for any first token
abbrev pub array_follows : List Token → Bool
array_follows t = second (begins_word (codes "type")) t

-- ( type idx ), an array, if the second token is `type`; else idx?, a memory, default 0
unfoldable pub target : Production MemArgTargetModel
target =
    where_else (second_word (codes "type")) (made array (group (codes "type") index))
    (made memory index_or_0)

-- ---- words that contain a number

-- a keyword that begins with the given text
abbrev pub at_front : List ℕ → Test
at_front front = at_kind (word_from front)

abbrev pub begins_with : List ℕ → List Token → Bool
begins_with front t = run (at_front front) t

-- `offset=`n?, default 0
unfoldable pub offset_or_0 : Production ℕ
offset_or_0 =
    made (λ o. unwrap_or o 0) (opt (at_front (codes "offset=")) (field (codes "offset=")))

unfoldable pub align : Production ℕ
align = restated align_tested AlignSpells align_to align_from

-- `align=`n?, default a
unfoldable pub align_or : ℕ → Production ℕ
align_or a = made (λ o. unwrap_or o a) (opt (at_front (codes "align=")) align)

-- ---- the whole operand

-- an access, without the position of its index
pub record MemArgModel : Type 0 where
  pub align : ℕ
  pub offset : ℕ
  pub target : MemArgTargetModel
  pub ordering : Option MemArgOrdering

abbrev pub mem_arg_view : MemArg → MemArgModel
mem_arg_view m =
    record {
      align = m.align;
      offset = m.offset;
      target = target_view m.target;
      ordering =
          m.ordering;
    }

abbrev pub mem_arg_of : MemArgTargetModel × (ℕ × ℕ) → MemArgModel
mem_arg_of v = record { target = v.0; offset = v.1.0; align = v.1.1; ordering = None }

-- a target; then a word `offset=`n?, default 0; then a word `align=`n?, default a
unfoldable pub mem_arg : ℕ → Production MemArgModel
mem_arg a = made mem_arg_of (seq target (seq offset_or_0 (align_or a)))

-- as the ordering of a read-modify-write instruction, or of a load or a store
abbrev pub ordering_as : Bool → Ordering → MemArgOrdering
ordering_as rmw o = if rmw then Rmw o else Op o

abbrev pub with_ordering : Bool → MemArgModel × Option Ordering → MemArgModel
with_ordering rmw v = record v.0 { ordering = option_map (ordering_as rmw) v.1 }

-- a MemArg, then Ordering?, kept as Op or Rmw
unfoldable pub atomic_mem_arg : ℕ → Bool → Production MemArgModel
atomic_mem_arg a rmw = made (with_ordering rmw) (seq (mem_arg a) (opt at_ordering ordering))

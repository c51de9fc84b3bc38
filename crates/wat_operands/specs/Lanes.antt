-- Lanes of vectors, and accesses to one lane.
use Rattle.std.specs.Prelude.{ℕ, Bool, List, codes, Option, None, is_none, if◌then◌else◌, refl}
use Rattle.wat_types.specs.Prelude.{sign_of, unsigned_value, Token, Integer, Test, run, both, opposite, test_of, either_test, at_integer, Production, one, seq, made, where_else, number}
use Rattle.wat_tokens.specs.Test.{behind}
use Rattle.wat_operands.specs.Memory.{MemArgModel, memory, mem_arg_of, mem_arg, mem_arg_view, at_front}
use Rattle.wat_operands.specs.declared.lanes.LaneArg.{LaneArg}
use Rattle.wat_operands.specs.declared.lanes.LaneOf.{LaneOf}
use Rattle.wat_operands.specs.declared.memory.MemArg.{MemArg}

-- ---- lanes

abbrev pub lane_of : ℕ → LaneArg
lane_of n = record { lane = n }

-- the lane that the token spells: an integer without a sign, 0 to 255
abbrev pub lane_in : Token → Option ℕ
lane_in (Integer text) = if is_none (sign_of text) then unsigned_value 8 text else None
lane_in _ = None

-- an Integer without a sign, 0 to 255
unfoldable pub lane_arg : Production LaneArg
lane_arg = made lane_of (one lane_in (refl, refl))

-- ---- accesses to one lane

-- an access and its lane, without the position of the index
pub record LaneAccessModel : Type 0 where
  pub memarg : MemArgModel
  pub lane : LaneArg

abbrev pub lane_access_view : LaneOf MemArg → LaneAccessModel
lane_access_view l = record { memarg = mem_arg_view l.memarg; lane = l.lane }

abbrev pub access_of : MemArgModel × LaneArg → LaneAccessModel
access_of v = record { memarg = v.0; lane = v.1 }

-- only the lane: memory 0, offset 0, align a
abbrev pub lane_alone : ℕ → LaneArg → LaneAccessModel
lane_alone a lane = access_of (mem_arg_of (memory (number 0), (0, a)), lane)

-- an Integer, or a Keyword that begins with `offset=` or `align=`
abbrev pub at_more_access : Test
at_more_access =
    either_test at_integer (either_test (at_front (codes "offset=")) (at_front (codes "align=")))

abbrev pub goes_on : List Token → Bool
goes_on t = run at_more_access t

-- the first token is an Integer, and the next is neither an Integer nor a Keyword that begins with
-- `offset=` or `align=`
abbrev pub at_alone : Test
at_alone = test_of (both at_integer.asks (opposite (behind at_more_access.asks))) refl

abbrev pub is_alone : List Token → Bool
is_alone t = run at_alone t

-- only a LaneArg if is_alone holds: memory 0, offset 0, align a; else MemArg, LaneArg
unfoldable pub lane_access : ℕ → Production LaneAccessModel
lane_access a =
    where_else at_alone (made (lane_alone a) lane_arg) (made access_of (seq (mem_arg a) lane_arg))

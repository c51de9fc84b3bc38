-- The effect of a call that reads an operand and appends the instruction to its destination.
use Rattle.std.specs.Prelude.{◌≡◌, ◌++◌, ◌∷◌, [], true, List, Option, Some, None, Result, Ok, Err}
use Rattle.wat_mnemonics.specs.Prelude.{tokens_alone, Costs, Counted, SameSettings, Error, Refuses, Read, bind, State, Token}
use Rattle.wat_mnemonics.specs.declared.op.Op.{Op}
use Rattle.wat_instr.specs.Instruction.{InstructionModel, Instruction, instruction_view, heapless_instruction, behind_word}

-- the instructions in a slot for one instruction
abbrev pub in_slot : Option Instruction → List InstructionModel
in_slot (Some i) = instruction_view i ∷ []
in_slot None = []

-- the result of `read`, with the instructions `before` prepended
abbrev pub put_behind : List InstructionModel → Read InstructionModel → Read (List InstructionModel)
put_behind before read = bind read (λ v r. Some (before ++ v ∷ [], r))

-- The destination held `before`, and now holds `after`. With Ok, `after` is `before` and the next
-- instruction, and `left` is left. With Err, `after` is `before`, and the refusal means the same as
-- a refusal by a parse.
abbrev pub Puts : {X : Type 0} → List InstructionModel → List InstructionModel → Result X Error
    → Read InstructionModel → List Token
    → Type 0
Puts before after (Ok x) read left = put_behind before read ≡ Some (after, left)
Puts before after (Err e) read left =
    Refuses true heapless_instruction e.fault read × (after ≡ before)

-- A call took the state a to b and returned r; `read` is the result of reading an instruction
-- in a. The call counts only tokens.
pub record PutsWhatIsRead {X : Type 0} (before after : List InstructionModel) (read : Read
    InstructionModel)
    (r : Result X Error) (a b : State) : Type 0 where
  pub exact : Puts before after r read b.left
  pub counts : Counted r a b
  pub cost : Costs tokens_alone a b
  pub settings : SameSettings a b

-- the call appends the instruction whose mnemonic was taken, with the operand that is next
unfoldable pub ReadsOperand : {X : Type 0} → Op → List InstructionModel → List InstructionModel
    → Result X Error
    → State → State → Type 0
ReadsOperand h before after r a b =
    PutsWhatIsRead before after ((behind_word h).reads a.left) r a b

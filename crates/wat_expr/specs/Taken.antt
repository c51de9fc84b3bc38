-- Calls that take one token or an instruction.
use Rattle.std.specs.Prelude.{◌≡◌, ◌≢◌, ◌||◌, Bool, true, Option, Some, None, Result, Ok, Err, ℕ, List, ◌∷◌, MatchBool}
use Rattle.wat_instr.specs.Prelude.{Token, String, Error, Memory, op_row, Op, InstructionModel, instruction, behind_word, is_br_if, is_if}
use Rattle.wat_expr.specs.Items.{reads}
use Rattle.wat_expr.specs.Progress.{suits}

-- With true, the token was taken from ts, and r is left. With false, ts doesn't begin with the
-- token, and nothing was taken.
abbrev pub TakesIf : Token → Bool → List Token → List Token → Type 0
TakesIf t b ts r = MatchBool b (ts ≡ t ∷ r) ((r ≡ ts) × ((u : List Token) → ts ≡ t ∷ u → ⊥))

-- With Ok, the mnemonic was taken: reading an instruction from ts is the same as reading its
-- operand from r. With Err, ts begins with no instruction.
abbrev pub TakesOp : Result Op Error → List Token → List Token → Type 0
TakesOp (Ok h) ts r = instruction.reads ts ≡ (behind_word h).reads r
TakesOp (Err e) ts r = instruction.reads ts ≡ None

-- With Ok, the instruction was read after its mnemonic, and `Then` holds for the instruction. With
-- an error other than Memory, ts begins with no operand.
abbrev pub ReadsBehind : {X : Type 0} → Op → (InstructionModel → Type 0) → Result X Error
    → List Token
    → List Token → Type 0
ReadsBehind h Then (Ok x) ts r =
    (i : InstructionModel) × ((behind_word h).reads ts ≡ Some (i, r)) × Then i
ReadsBehind h Then (Err e) ts r = e.fault ≢ Memory → (behind_word h).reads ts ≡ None

-- whether the pending hint can precede an instruction with this mnemonic
abbrev pub suits_word : Option ℕ → Op → Bool
suits_word None h = true
suits_word (Some v) h = is_br_if (op_row h) || is_if (op_row h)

-- With Ok, the mnemonic was taken as above, and the pending hint can precede the instruction. With
-- Err, ts begins with no instruction that the pending hint can precede.
abbrev pub TakesSuited : Option ℕ → Result Op Error → List Token → List Token → Type 0
TakesSuited p (Ok h) ts r = TakesOp (Ok h) ts r × (suits_word p h ≡ true)
TakesSuited p (Err e) ts r = (i : InstructionModel) (m : List Token) → reads i ts m
    → suits p i ≡ true → ⊥

-- with Ok, a string was taken, and seen as its content; with Err, ts begins with no string
abbrev pub TakesString : {X : Type 0} → (X → List ℕ) → Result X Error → List Token → List Token
    → Type 0
TakesString content (Ok s) ts r = ts ≡ String (content s) ∷ r
TakesString content (Err e) ts r = (s : List ℕ) (u : List Token) → ts ≡ String s ∷ u → ⊥

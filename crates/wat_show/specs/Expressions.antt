-- How instructions and expressions are listed.
use Rattle.std.specs.Prelude.{◌≡◌, ◌==◌, Bool, true, false, ℕ, ◌+◌, ◌<◌, List, [], ◌∷◌, ◌++◌, codes, decimal, length, Option, Some, None, if◌then◌else◌, get_or}
use Rattle.wat_core.specs.Prelude.{signed_decimal, ExpressionModel, op_word, Op, InstructionModel, Operand}
use Rattle.wat_instr.specs.Operand.{one_index, integer}
use Rattle.wat_mnemonics.specs.TableIndex.{op_of_row}
use Rattle.wat_show.specs.Types.{index_text}
use Rattle.wat_mnemonics.specs.declared.op.Op.TheVariants as ops

-- ---- instructions

-- whether the operand is shown: an index, an i32 or an i64; the access to a table or a memory isn't shown
abbrev pub shows_operand : Op → Bool
shows_operand (ops.Indexed op) = true
shows_operand ops.i32_const = true
shows_operand ops.i64_const = true
shows_operand _ = false

-- a space, then an index or an integer
abbrev pub operand_text : Operand → List ℕ
operand_text (one_index i) = codes " " ++ index_text i
operand_text (integer n) = codes " " ++ signed_decimal n
operand_text _ = []

-- the operand, if it is shown
abbrev pub shown_operand : Op → Operand → List ℕ
shown_operand h o = if shows_operand h then operand_text o else []

-- the mnemonic, and the operand if it is shown
abbrev pub headed_text : Op → Operand → List ℕ
headed_text h o = op_word h ++ shown_operand h o

-- the listing of an instruction; its row gives the mnemonic
unfoldable pub instr_text : InstructionModel → List ℕ
instr_text i = headed_text (op_of_row i.row) i.operand

-- ---- expressions

-- the value of the first hint for the index, if there is a hint for it
abbrev pub hint_at : List (ℕ × ℕ) → ℕ → Option ℕ
hint_at [] k = None
hint_at (h ∷ hs) k = if h.0 == k then Some h.1 else hint_at hs k

-- ` hint ` and its value
abbrev pub hint_text : Option ℕ → List ℕ
hint_text None = []
hint_text (Some v) = codes " hint " ++ decimal v

-- a line: a prefix, an instruction and its hint
abbrev pub line : List ℕ → InstructionModel → Option ℕ → List ℕ
line front i hint = front ++ (instr_text i ++ (hint_text hint ++ codes "\n"))

-- Instructions, each on a line after the prefix `front`. The first instruction has the index k. The
-- line of the instruction at an index shows the value of `hint` at this index.
abbrev pub lines : List ℕ → (ℕ → Option ℕ) → ℕ → List InstructionModel → List ℕ
lines front hint k [] = []
lines front hint k (i ∷ is) = line front i (hint k) ++ lines front hint (k + 1) is

-- the instructions of an expression, each on a line after the prefix, with the first hint for its index
unfoldable pub lines_of : List ℕ → ExpressionModel → List ℕ
lines_of front e = lines front (hint_at e.hints) 0 e.instrs

-- the instructions of an expression, each on a line
abbrev pub expression_text : ExpressionModel → List ℕ
expression_text e = lines_of [] e

-- the same, indented by two spaces
abbrev pub below : ExpressionModel → List ℕ
below e = lines_of (codes "  ") e

-- the marks hold the first hint for each index below their number
abbrev pub AreMarks : List (ℕ × ℕ) → List (Option ℕ) → Type 0
AreMarks hints marks = (k : ℕ) → k < length marks → get_or marks k None ≡ hint_at hints k

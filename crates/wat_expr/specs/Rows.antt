-- Texts as tokens, and the expressions that they spell.
use Rattle.std.specs.Prelude.{ℕ, pos, List, [], ◌∷◌, ◌++◌, codes, None}
use Rattle.wat_instr.specs.Prelude.{Token, Keyword, Integer, String, Annotation, number, in_parens, Spelled, no_label, use_of, BlockOp, IndexedOp, LabelOp, ScalarOp, InstructionModel, instr_of}
use Rattle.wat_expr.specs.Prelude.{ExpressionModel, expression, folded_instruction}
use Rattle.wat_mnemonics.specs.declared.op.Op.TheVariants as word
use Rattle.wat_mnemonics.specs.declared.indexed.BlockOp.TheVariants as block
use Rattle.wat_mnemonics.specs.declared.indexed.IndexedOp.TheVariants as indexed
use Rattle.wat_mnemonics.specs.declared.indexed.LabelOp.TheVariants as between
use Rattle.wat_mnemonics.specs.declared.scalar.ScalarOp.TheVariants as scalar
use Rattle.wat_instr.specs.Operand as operands

-- ---- instructions

-- `i32.const` and a number
abbrev pub const_of : ℕ → InstructionModel
const_of n = instr_of word.i32_const (operands.integer (pos n))

-- an instruction without an operand
abbrev pub plain_of : ScalarOp → InstructionModel
plain_of op = instr_of (word.Scalar op) operands.nothing

-- a mnemonic and an index
abbrev pub indexed_of : IndexedOp → ℕ → InstructionModel
indexed_of op n = instr_of (word.Indexed op) (operands.one_index (number n))

-- `block` or `if`, without a label and a type
abbrev pub opening_of : BlockOp → InstructionModel
opening_of op =
    instr_of (word.Block op) (operands.block (record { label = no_label; ty = use_of None None }))

-- `else` or `end`, without a label
abbrev pub closing_of : LabelOp → InstructionModel
closing_of op = instr_of (word.Label op) (operands.label None)

-- instructions without a hint
abbrev pub unhinted : List InstructionModel → ExpressionModel
unhinted is = record { instrs = is; hints = [] }

-- ---- tokens

-- `(`, a keyword, tokens, `)`
abbrev pub group_text : List ℕ → List Token → List Token
group_text w ts = in_parens (Keyword w ∷ ts)

-- `(i32.const n)`
abbrev pub const_text : List ℕ → List Token
const_text n = group_text (codes "i32.const") (Integer n ∷ [])

-- `(local.get 0)`
abbrev pub get_text : List Token
get_text = group_text (codes "local.get") (Integer (codes "0") ∷ [])

-- `(@metadata.code.branch_hint "v")`
abbrev pub branch_hint_text : ℕ → List Token
branch_hint_text v =
    in_parens (Annotation (codes "metadata.code.branch_hint") ∷ String (v ∷ []) ∷ [])

-- ---- the facts

-- `(i32.add (i32.const 1) (i32.const 2))`
abbrev pub add_text : List Token
add_text = group_text (codes "i32.add") (const_text (codes "1") ++ const_text (codes "2"))

-- the first operand, the second operand, and then the instruction
abbrev pub sum : List InstructionModel
sum = const_of 1 ∷ const_of 2 ∷ plain_of scalar.i32_add ∷ []

-- `(i32.add (i32.const 1) (i32.const 2))` spells `i32.const 1 i32.const 2 i32.add`, as an
-- expression and as a folded instruction
abbrev pub OperandsFirst : Type 0
OperandsFirst =
    Spelled expression add_text (unhinted sum) × Spelled folded_instruction add_text (unhinted sum)

-- `(if (i32.const 1) (then (nop)) (else (unreachable)))`
abbrev pub if_text : List Token
if_text =
    group_text (codes "if") (const_text (codes "1")
    ++ (group_text (codes "then") (group_text (codes "nop") [])
    ++ group_text (codes "else") (group_text (codes "unreachable") [])))

-- `i32.const 1 if nop else unreachable end`
abbrev pub flat_if_text : List Token
flat_if_text =
    Keyword (codes "i32.const") ∷ Integer (codes "1") ∷ Keyword (codes "if") ∷ Keyword (codes "nop")
    ∷ Keyword (codes "else") ∷ Keyword (codes "unreachable") ∷ Keyword (codes "end") ∷ []

-- the condition, `if`, the first arm, `else`, the second arm, and `end`
abbrev pub both_arms : List InstructionModel
both_arms =
    const_of 1 ∷ opening_of block.if_ ∷ plain_of scalar.nop ∷ closing_of between.else_
    ∷ plain_of scalar.unreachable ∷ closing_of between.end ∷ []

-- `(if (i32.const 1) (then (nop)) (else (unreachable)))` and `i32.const 1 if nop else unreachable
-- end` spell the same expression
abbrev pub BothArms : Type 0
BothArms =
    Spelled expression if_text (unhinted both_arms)
    × Spelled expression flat_if_text (unhinted both_arms)

-- `(br_if 0 (local.get 0))`
abbrev pub branch_text : List Token
branch_text = group_text (codes "br_if") (Integer (codes "0") ∷ get_text)

-- `local.get 0 br_if 0`
abbrev pub branch : List InstructionModel
branch = indexed_of indexed.local_get 0 ∷ indexed_of indexed.br_if 0 ∷ []

-- `(@metadata.code.branch_hint "\01") (br_if 0 (local.get 0))` spells `local.get 0 br_if 0`. The
-- hint is 1, at the index of `br_if`, which comes after its operand.
abbrev pub HintBehindOperand : Type 0
HintBehindOperand =
    Spelled expression (branch_hint_text 1 ++ branch_text)
    (record { instrs = branch; hints = (1, 1) ∷ [] })

-- `(drop (block (nop)))`
abbrev pub drop_text : List Token
drop_text = group_text (codes "drop") (group_text (codes "block") (group_text (codes "nop") []))

-- `(drop (block (nop)))` spells the expression `block nop end drop`. As a folded instruction, it
-- spells `nop block drop`, without an `end`.
abbrev pub BlockInFold : Type 0
BlockInFold =
    Spelled expression drop_text (unhinted (opening_of block.block ∷ plain_of scalar.nop
    ∷ closing_of between.end ∷ plain_of scalar.drop ∷ []))
    × Spelled folded_instruction drop_text (unhinted (plain_of scalar.nop
    ∷ opening_of block.block ∷ plain_of scalar.drop ∷ []))

-- `(if (local.get 0) (then))`
abbrev pub one_arm_text : List Token
one_arm_text = group_text (codes "if") (get_text ++ group_text (codes "then") [])

-- `local.get 0 if end`
abbrev pub one_arm : List InstructionModel
one_arm =
    indexed_of indexed.local_get 0 ∷ opening_of block.if_ ∷ closing_of between.end ∷ []

-- `(if (local.get 0) (then)) (@metadata.code.branch_hint "\00") (if (local.get 0) (then))` spells
-- `local.get 0 if end local.get 0 if end`. The hint is 0, at the index of the second `if`. The
-- added `end` counts for the index.
abbrev pub HintBehindBlock : Type 0
HintBehindBlock =
    Spelled expression (one_arm_text ++ (branch_hint_text 0 ++ one_arm_text))
    (record { instrs = one_arm ++ one_arm; hints = (4, 0) ∷ [] })

-- Texts as tokens: they spell the expressions of the facts.
use Rattle.std.proofs.Common.{◌≡◌, ℕ, List, [], ◌∷◌, Some, None, refl, subst, sym, arith, codes, pos}
use Rattle.wat_instr.specs.Prelude.{BlockOp, IndexedOp, ScalarOp}
use Rattle.wat_expr.specs.Prelude.{append-nil, many_at, many_reads, name_annotation, read, Spelled, number, Token, Keyword, Integer, function_groups, func_groups, label, type_use, block_type, op_word, Op, LabelOp, InstructionModel, instr_of, instruction_read, Operand, operand, value_of, expression, Groups, NoGroup, Group, is_folded, folded_value, folded_instruction, Items, Nil, Plain, Folded, Block, IfThen, IfElse, Hinted, lists, reads, reads_of}
use Rattle.wat_expr.specs.Rows.{const_of, plain_of, indexed_of, opening_of, closing_of, OperandsFirst, BothArms, HintBehindOperand, BlockInFold, HintBehindBlock}
use Rattle.wat_mnemonics.specs.declared.op.Op.TheVariants as word
use Rattle.wat_mnemonics.specs.declared.indexed.BlockOp.TheVariants as block
use Rattle.wat_mnemonics.specs.declared.indexed.IndexedOp.TheVariants as indexed
use Rattle.wat_mnemonics.specs.declared.indexed.LabelOp.TheVariants as between
use Rattle.wat_mnemonics.specs.declared.scalar.ScalarOp.TheVariants as scalar
use Rattle.wat_instr.specs.Operand as operands

-- ---- instructions before any rest

front : (h : Op) (w : List ℕ) → op_word h ≡ w → (o : Operand) (t r : List Token)
    → (operand h).reads t ≡ Some (o, r) → reads (instr_of h o) (Keyword w ∷ t) r
front h w k o t r e = reads_of (instr_of h o) (Keyword w ∷ t) r (instruction_read h w k o t r e)

-- an instruction without an operand
plain : (op : ScalarOp) (w : List ℕ) → op_word (word.Scalar op) ≡ w → (r : List Token)
    → reads (plain_of op) (Keyword w ∷ r) r
unfolding operand
plain op w k r = front (word.Scalar op) w k operands.nothing r r refl

-- `i32.const` and a number
const : (d : List ℕ) (n : ℕ) (r : List Token)
    → (operand word.i32_const).reads (Integer d ∷ r) ≡ Some (operands.integer (pos n), r)
    → reads (const_of n) (Keyword (codes "i32.const") ∷ Integer d ∷ r) r
const d n r e = front word.i32_const (codes "i32.const") refl (operands.integer (pos n)) (Integer d ∷ r) r e

-- a mnemonic and the index 0
indexed_by_0 : (op : IndexedOp) (w : List ℕ) → op_word (word.Indexed op) ≡ w → (r : List Token)
    → reads (indexed_of op 0) (Keyword w ∷ Integer (codes "0") ∷ r) r
unfolding operand read
indexed_by_0 op w k r = front (word.Indexed op) w k (operands.one_index (number 0)) (Integer (codes "0") ∷ r) r refl

-- `block` or `if` before tokens that begin no label and no type
opening : (op : BlockOp) (w : List ℕ) → op_word (word.Block op) ≡ w → (r : List Token)
    → (operand (word.Block op)).reads r ≡ Some ((opening_of op).operand, r)
    → reads (opening_of op) (Keyword w ∷ r) r
opening op w k r e = front (word.Block op) w k (opening_of op).operand r r e

-- `else` or `end` before tokens that begin no label
closing : (op : LabelOp) (w : List ℕ) → op_word (word.Label op) ≡ w → (r : List Token)
    → (operand (word.Label op)).reads r ≡ Some (operands.label None, r)
    → reads (closing_of op) (Keyword w ∷ r) r
closing op w k r e = front (word.Label op) w k (operands.label None) r r e

-- ---- from items and groups to spelled values

listed : (xs : Items) (ts : List Token) → lists xs ts [] → Spelled expression ts (value_of xs)
unfolding expression
listed xs ts l = (ts, sym (append-nil ts), (xs, subst (λ (u : List Token). lists xs u []) (sym (append-nil ts)) l, refl, refl))

folded : (i : InstructionModel) (gs : Groups) (ts : List Token) → is_folded i gs ts [] → Spelled folded_instruction ts (folded_value i gs)
unfolding folded_instruction
folded i gs ts l = (ts, sym (append-nil ts), (i, gs, subst (λ (u : List Token). is_folded i gs u []) (sym (append-nil ts)) l, refl))

-- ---- the facts

pub operands_first : OperandsFirst
unfolding operand read
operands_first = (
  listed (Folded (plain_of scalar.i32_add) (Folded (const_of 1) Nil (Folded (const_of 2) Nil Nil)) Nil) _
      (_, _, [], refl, refl, plain scalar.i32_add _ refl _, (_, _, _, refl, refl, const _ 1 _ refl, refl, (_, _, _, refl, refl, const _ 2 _ refl, refl, refl)), refl),
  folded (plain_of scalar.i32_add) (Group (const_of 1) NoGroup (Group (const_of 2) NoGroup NoGroup)) _
      (_, _, refl, plain scalar.i32_add _ refl _, (_, _, _, refl, const _ 1 _ refl, refl, (_, _, _, refl, const _ 2 _ refl, refl, refl))),
)

pub both_arms : BothArms
unfolding operand read block_type label name_annotation type_use function_groups func_groups many_at many_reads
both_arms = (
  listed (IfElse (opening_of block.if_) (Folded (const_of 1) Nil Nil) (Folded (plain_of scalar.nop) Nil Nil) (Folded (plain_of scalar.unreachable) Nil Nil) Nil) _
      (_, _, _, _, [], refl, refl, opening block.if_ _ refl _ refl, (tt, tt), (_, _, _, refl, refl, const _ 1 _ refl, refl, refl), (_, _, _, refl, refl, plain scalar.nop _ refl _, refl, refl), (_, _, _, refl, refl, plain scalar.unreachable _ refl _, refl, refl), refl),
  listed (Plain (const_of 1) (Plain (opening_of block.if_) (Plain (plain_of scalar.nop) (Plain (closing_of between.else_) (Plain (plain_of scalar.unreachable) (Plain (closing_of between.end) Nil)))))) _
      (_, const _ 1 _ refl, (_, opening block.if_ _ refl _ refl, (_, plain scalar.nop _ refl _, (_, closing between.else_ _ refl _ refl, (_, plain scalar.unreachable _ refl _, (_, closing between.end _ refl _ refl, refl)))))),
)

pub hint_behind_operand : HintBehindOperand
hint_behind_operand =
    listed (Hinted 1 (Folded (indexed_of indexed.br_if 0) (Folded (indexed_of indexed.local_get 0) Nil Nil) Nil)) _
    (_, refl, omega arith, refl, (_, _, [], refl, refl, indexed_by_0 indexed.br_if _ refl _, (_, _, _, refl, refl, indexed_by_0 indexed.local_get _ refl _, refl, refl), refl))

pub block_in_fold : BlockInFold
unfolding operand block_type label name_annotation type_use function_groups func_groups many_at many_reads
block_in_fold = (
  listed (Folded (plain_of scalar.drop) (Block (opening_of block.block) (Folded (plain_of scalar.nop) Nil Nil) Nil) Nil) _
      (_, _, [], refl, refl, plain scalar.drop _ refl _, (_, _, _, refl, refl, opening block.block _ refl _ refl, (_, _, _, refl, refl, plain scalar.nop _ refl _, refl, refl), refl), refl),
  folded (plain_of scalar.drop) (Group (opening_of block.block) (Group (plain_of scalar.nop) NoGroup NoGroup) NoGroup) _
      (_, _, refl, plain scalar.drop _ refl _, (_, _, _, refl, opening block.block _ refl _ refl, (_, _, _, refl, plain scalar.nop _ refl _, refl, refl), refl)),
)

pub hint_behind_block : HintBehindBlock
unfolding operand block_type label name_annotation type_use function_groups func_groups many_at many_reads
hint_behind_block =
    listed (IfThen (opening_of block.if_) (Folded (indexed_of indexed.local_get 0) Nil Nil) Nil (Hinted 0 (IfThen (opening_of block.if_) (Folded (indexed_of indexed.local_get 0) Nil Nil) Nil Nil))) _
    (_, _, _, _, refl, refl, opening block.if_ _ refl _ refl, (tt, tt), (_, _, _, refl, refl, indexed_by_0 indexed.local_get _ refl _, refl, refl), refl, (_, refl, omega arith, tt, (_, _, _, [], refl, refl, opening block.if_ _ refl _ refl, (tt, tt), (_, _, _, refl, refl, indexed_by_0 indexed.local_get _ refl _, refl, refl), refl, refl)))

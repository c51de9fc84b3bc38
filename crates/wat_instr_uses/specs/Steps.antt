-- What instructions do with blocks and labels (Core Specification, Text Format, "Labels" and "Control
-- Instructions").
use Rattle.std.specs.Prelude.{ℕ, List, [], ◌∷◌, ◌++◌, Option, flat_map, if◌then◌else◌, ◌==◌}
use Rattle.wat_instr.specs.Prelude.{IndexModel, Op, Operand, InstructionModel}
use Rattle.wat_tokens.specs.Index.{number, name}
use Rattle.wat_mnemonics.specs.Prelude.{op_row}
use Rattle.wat_mnemonics.specs.TableIndex.{op_of_row}
use Rattle.wat_operands.specs.Block.{BlockTypeModel}
use Rattle.wat_operands.specs.Branch.{BrTableModel}
use Rattle.wat_operands.specs.CatchClause.{CatchModel}
use Rattle.wat_operands.specs.Handler.{HandleModel, on_label, on_switch}
use Rattle.wat_mnemonics.specs.declared.indexed.BlockOp.{BlockOp}
use Rattle.wat_mnemonics.specs.declared.indexed.IndexedOp.{IndexedOp}
use Rattle.wat_mnemonics.specs.declared.indexed.LabelOp.{LabelOp}
use Rattle.wat_scopes.specs.Steps.{ActModel, begins, refers, else_, end_, catch_, catch_all, delegate}
use Rattle.wat_scopes.specs.declared.steps.Part.{Part}
use Rattle.wat_mnemonics.specs.declared.op.Op.TheVariants as ops
use Rattle.wat_mnemonics.specs.declared.indexed.BlockOp.TheVariants as block
use Rattle.wat_mnemonics.specs.declared.indexed.IndexedOp.TheVariants as indexed
use Rattle.wat_mnemonics.specs.declared.indexed.LabelOp.TheVariants as label
use Rattle.wat_mnemonics.specs.declared.scalar.ScalarOp.TheVariants as scalar
use Rattle.wat_instr.specs.Operand as operands
use Rattle.wat_scopes.specs.declared.steps.Part.TheVariants as part

-- ---- uses of labels

-- the label of an index: a number uses no label
abbrev pub uses_label : IndexModel → List ActModel
uses_label (number n) = []
uses_label (name x) = refers x ∷ []

-- the labels of indices, in order
abbrev pub uses_labels : List IndexModel → List ActModel
uses_labels is = flat_map uses_label is

-- the labels of the clauses of a `try_table`
abbrev pub caught_labels : List CatchModel → List ActModel
caught_labels cs = flat_map (λ c. uses_label c.label) cs

-- the label of a handler of a `resume`, if it has one
abbrev pub handled_label : HandleModel → List ActModel
handled_label (on_label tag l) = uses_label l
handled_label (on_switch tag) = []

-- the labels of handlers, in order
abbrev pub handled_labels : List HandleModel → List ActModel
handled_labels hs = flat_map handled_label hs

-- the labels of a `br_table`
abbrev pub branch_labels : BrTableModel → List ActModel
branch_labels b = uses_labels b.labels ++ uses_label b.default

-- ---- the acts of an instruction, by its operand

-- the first part of the block that the instruction begins
abbrev pub block_part : BlockOp → Part
block_part block.block = part.Body
block_part block.if_ = part.Then
block_part block.loop_ = part.Body
block_part block.try_ = part.Try

-- the same, for an instruction whose operand is a block type
abbrev pub part_of : Op → Part
part_of (ops.Block op) = block_part op
part_of _ = part.Body

-- the label of a block type
abbrev pub block_label : BlockTypeModel → Option (List ℕ)
block_label b = b.label.id

-- `else` or `end`, perhaps with a label
abbrev pub label_act : LabelOp → Option (List ℕ) → ActModel
label_act label.else_ l = else_ l
label_act label.end l = end_ l

-- the same, for an instruction whose operand is an optional label
abbrev pub label_acts : Op → Option (List ℕ) → List ActModel
label_acts (ops.Label op) l = label_act op l ∷ []
label_acts _ l = []

-- An index, as the operand of this instruction. `delegate` ends its `try` before it uses the label, so
-- the label is that of a block around the `try`.
abbrev pub indexed_acts : IndexedOp → IndexModel → List ActModel
indexed_acts indexed.br i = uses_label i
indexed_acts indexed.br_if i = uses_label i
indexed_acts indexed.br_on_null i = uses_label i
indexed_acts indexed.br_on_non_null i = uses_label i
indexed_acts indexed.rethrow i = uses_label i
indexed_acts indexed.catch i = catch_ ∷ []
indexed_acts indexed.delegate i = delegate ∷ uses_label i
indexed_acts _ i = []

-- the same, for an instruction whose operand is an index
abbrev pub index_acts : Op → IndexModel → List ActModel
index_acts (ops.Indexed op) i = indexed_acts op i
index_acts _ i = []

-- an instruction without an operand: only `catch_all` does something with blocks
abbrev pub plain_acts : Op → List ActModel
plain_acts h = if op_row h == op_row (ops.Scalar scalar.catch_all) then catch_all ∷ [] else []

-- ---- instructions

-- the acts of an instruction, by its mnemonic and its operand
abbrev pub op_steps : Op → Operand → List ActModel
op_steps h (operands.block b) = begins (part_of h) (block_label b) ∷ []
op_steps h (operands.label l) = label_acts h l
op_steps h operands.nothing = plain_acts h
op_steps h (operands.one_index i) = index_acts h i
op_steps h (operands.branches b) = branch_labels b
op_steps h (operands.cast c) = uses_label c.label
op_steps h (operands.caught t) = caught_labels t.catches ++ begins part.Body (block_label t.block) ∷ []
op_steps h (operands.resumed r) = handled_labels r.table
op_steps h (operands.thrown r) = handled_labels r.table
op_steps h _ = []

-- the acts of an instruction
unfoldable pub instr_steps : InstructionModel → List ActModel
instr_steps i = op_steps (op_of_row i.row) i.operand

-- the acts of instructions, in order
abbrev pub steps_of : List InstructionModel → List ActModel
steps_of is = flat_map instr_steps is

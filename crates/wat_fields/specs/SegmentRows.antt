-- Texts as tokens, and the memories and data segments that they spell.
use Rattle.std.specs.Prelude.{true, false, List, [], ◌∷◌, ◌++◌, codes, Some, None}
use Rattle.wat_expr.specs.Prelude.{Spelled, nop}
use Rattle.wat_fields.specs.Prelude.{Token, Keyword, Integer, String, number, in_parens, no_label, use_of, no_head, InstructionModel, instr_of, DataModel, passive, active, data_of, data_segment, written, numbers, normal, memory_of, memory}
use Rattle.wat_fields.specs.Memory.{inline}
use Rattle.wat_mnemonics.specs.declared.op.Op.TheVariants as word
use Rattle.wat_mnemonics.specs.declared.indexed.BlockOp.TheVariants as block
use Rattle.wat_instr.specs.Operand as operands

-- `memory i64 (pagesize 1) (data "ab")`: addresses of 64 bits, pages of a byte, two bytes
abbrev pub InlineMemory : Type 0
InlineMemory =
    Spelled memory
    (Keyword (codes "memory") ∷ Keyword (codes "i64")
    ∷ (in_parens (Keyword (codes "pagesize") ∷ Integer (codes "1") ∷ [])
    ++ in_parens (Keyword (codes "data") ∷ String (codes "ab") ∷ [])))
    (memory_of no_head (inline true (Some 0) (written (codes "ab") ∷ [])))

-- `memory 1 2 shared`
abbrev pub SharedMemory : Type 0
SharedMemory =
    Spelled memory (Keyword (codes "memory") ∷ Integer (codes "1") ∷ Integer (codes "2")
    ∷ Keyword (codes "shared") ∷ [])
    (memory_of no_head (normal (record {
      limits = record { is64 = false; min = 1; max = Some 2 };
      shared = true;
      page_size_log2 =
          None;
    })))

-- `data (i32 1)` and `data "ab" (i16 1 -1)` are passive; the lowest byte of a number comes first
abbrev pub PassiveData : Type 0
PassiveData =
    Spelled data_segment (Keyword (codes "data")
    ∷ in_parens (Keyword (codes "i32") ∷ Integer (codes "1") ∷ []))
    (data_of no_label passive (numbers (1 ∷ 0 ∷ 0 ∷ 0 ∷ []) ∷ []))
    × Spelled data_segment (Keyword (codes "data") ∷ String (codes "ab")
    ∷ in_parens (Keyword (codes "i16") ∷ Integer (codes "1") ∷ Integer (codes "-1") ∷ []))
    (data_of no_label passive (written (codes "ab") ∷ numbers (1 ∷ 0 ∷ 255 ∷ 255 ∷ []) ∷ []))

abbrev pub plain_block : InstructionModel
plain_block =
    instr_of (word.Block block.block)
    (operands.block (record { label = no_label; ty = use_of None None }))

-- `data (block nop)`
abbrev pub block_text : List Token
block_text =
    Keyword (codes "data") ∷ in_parens (Keyword (codes "block") ∷ Keyword (codes "nop") ∷ [])

-- active in memory 0, with the offset `nop` and then `block`
abbrev pub head_behind_nop : DataModel
head_behind_nop =
    data_of no_label (active (number 0) (record { instrs = nop ∷ plain_block ∷ []; hints = [] })) []

-- `data (block nop)` is active in memory 0, with the offset `nop` and then `block`: the head comes
-- last, and no `end` is added
abbrev pub HeadLast : Type 0
HeadLast = Spelled data_segment block_text head_behind_nop

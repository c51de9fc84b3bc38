-- Texts as tokens, and the memories and data segments that they spell: the values read from them.
use Rattle.std.specs.Prelude.{◌≡◌, List, [], ◌∷◌, Some, refl, codes}
use Rattle.wat_fields.specs.Prelude.{many_at, many_reads, name_annotation, read, spelled_whole, Token, RParen, function_groups, func_groups, label, is_64, limits_type, pagesize_or_none, memory_type, type_use, inline_export, head, mnemonic_of, op_of_word, instruction, operand, nop_read, data_memory, data_active, data_kind, data_segment, data_val, data_vals, inline_memory, memory_kind, memory, wide_numbers, number_list, head_last, offset_inside}
use Rattle.wat_types.specs.Limits.{page_exponent, pagesize}
use Rattle.wat_types.specs.Exponent.{exponent}
use Rattle.wat_operands.specs.Block.{block_type}
use Rattle.wat_fields.specs.SegmentRows.{block_text, head_behind_nop, InlineMemory, SharedMemory, PassiveData, HeadLast}
use Rattle.wat_mnemonics.specs.declared.op.Op.TheVariants as word
use Rattle.wat_mnemonics.specs.declared.indexed.BlockOp.TheVariants as block

pub inline_memory_of_text : InlineMemory
unfolding memory memory_kind inline_memory head inline_export label name_annotation is_64 pagesize_or_none pagesize page_exponent exponent data_vals data_val many_at many_reads read
inline_memory_of_text = spelled_whole memory _ _ refl

pub shared_memory : SharedMemory
unfolding memory memory_kind head inline_export label name_annotation memory_type limits_type is_64 pagesize_or_none many_at many_reads read
shared_memory = spelled_whole memory _ _ refl

pub passive_data : PassiveData
unfolding data_segment data_kind label name_annotation data_vals data_val number_list wide_numbers many_at many_reads read
passive_data = (spelled_whole data_segment _ _ refl, spelled_whole data_segment _ _ refl)

block_word : mnemonic_of (codes "block") ≡ Some (word.Block block.block)
block_word = op_of_word (word.Block block.block) (codes "block") refl

abbrev closed : List Token
closed = RParen ∷ []

pub head_of_data_last : HeadLast
unfolding data_segment data_kind data_active data_memory offset_inside head_last instruction operand block_type label name_annotation type_use function_groups func_groups data_vals many_at many_reads
head_of_data_last = spelled_whole data_segment block_text head_behind_nop (rw (block_word, nop_read closed refl) refl)

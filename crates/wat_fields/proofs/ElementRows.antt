-- Texts as tokens, and the element segments and tables that they spell: the values read from them.
use Rattle.std.specs.Prelude.{◌≡◌, List, [], ◌∷◌, ◌++◌, Some, refl, codes}
use Rattle.wat_fields.specs.Prelude.{number, many_at, many_reads, name_annotation, read, in_parens, spelled_whole, Token, Keyword, Integer, RParen, label, is_64, limits_type, table_type, shorthand, at_shorthand, ref_type, inline_export, head, mnemonic_of, op_of_word, instr_of, instruction, operand, alone, grouped_read, folded_instruction, expression, elem_offset, table_number, in_some_table, declared_segment, active_segment, passive_segment, segment, elem, index_list, ref_func_of, item_list, typed_elems, elem_list, payload, payload_or_indices, written_or_folded, item, inline_table, normal_table, table_kind, table}
use Rattle.wat_expr.specs.Laws.Alone.{alone_read, folded_read}
use Rattle.wat_types.specs.Heap.{abstract_heap_type, heap_type}
use Rattle.wat_fields.specs.ElementRows.{zero_const, zero_alone, active_text, active_elem, null_func, null_text, nulls_text, nulls, items_text, two_items, Declared, OfExternref, Active, OfNulls, OfItems}
use Rattle.wat_mnemonics.specs.declared.op.Op.TheVariants as word
use Rattle.wat_mnemonics.specs.declared.indexed.IndexedOp.TheVariants as op
use Rattle.wat_instr.specs.Operand as operands

pub declared_func : Declared
unfolding elem segment declared_segment payload index_list label name_annotation many_at many_reads read
declared_func = spelled_whole elem _ _ refl

pub of_externref : OfExternref
unfolding table table_kind inline_table elem_list index_list head inline_export label name_annotation is_64 ref_type shorthand at_shorthand many_at many_reads read
of_externref = spelled_whole table _ _ refl

const_word : mnemonic_of (codes "i32.const") ≡ Some word.i32_const
const_word = op_of_word word.i32_const (codes "i32.const") refl

abbrev const_text : List Token
const_text = Keyword (codes "i32.const") ∷ Integer (codes "0") ∷ []

abbrev behind_const : List Token
behind_const = Integer (codes "1") ∷ Integer (codes "2") ∷ []

const_folded : folded_instruction.reads (in_parens const_text ++ behind_const) ≡ Some (zero_alone, behind_const)
unfolding instruction operand read
const_folded = folded_read zero_const const_text behind_const (rw const_word refl)

pub active_functions : Active
unfolding elem segment active_segment in_some_table table_number elem_offset written_or_folded payload_or_indices at_shorthand index_list label name_annotation many_at many_reads read
active_functions = spelled_whole elem active_text active_elem (rw const_folded refl)

null_word : mnemonic_of (codes "ref.null") ≡ Some word.ref_null
null_word = op_of_word word.ref_null (codes "ref.null") refl

null_front : instruction.reads (null_text ++ RParen ∷ []) ≡ Some (null_func, RParen ∷ [])
unfolding instruction operand heap_type abstract_heap_type
null_front = rw null_word refl

null_read : expression.reads (in_parens null_text) ≡ Some (alone null_func, [])
null_read = grouped_read null_func null_text [] null_front refl refl

null_folded : folded_instruction.reads (in_parens null_text) ≡ Some (alone null_func, [])
null_folded = folded_read null_func null_text [] null_front

pub table_of_nulls : OfNulls
unfolding table table_kind normal_table table_type limits_type is_64 ref_type shorthand at_shorthand head inline_export label name_annotation many_at many_reads read
table_of_nulls = spelled_whole table nulls_text nulls (rw null_read refl)

func_word : mnemonic_of (codes "ref.func") ≡ Some (word.Indexed op.ref_func)
func_word = op_of_word (word.Indexed op.ref_func) (codes "ref.func") refl

abbrev func_text : List Token
func_text = Keyword (codes "ref.func") ∷ Integer (codes "0") ∷ []

abbrev behind_func : List Token
behind_func = RParen ∷ in_parens null_text

func_read : expression.reads (func_text ++ behind_func) ≡ Some (ref_func_of (number 0), behind_func)
unfolding instruction operand read
func_read = alone_read (instr_of (word.Indexed op.ref_func) (operands.one_index (number 0))) func_text behind_func (rw func_word refl) refl

pub elem_of_items : OfItems
unfolding elem segment passive_segment payload typed_elems item_list item written_or_folded ref_type shorthand at_shorthand label name_annotation many_at many_reads read
elem_of_items = spelled_whole elem items_text two_items (rw (func_read, null_folded) refl)

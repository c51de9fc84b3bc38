-- Laws: data segments are read again.
use Rattle.std.proofs.Common.{true, codes, unwrap_or, rules, arith, refl, inr, lit≤}
use Rattle.wat_print_instr.specs.Laws.Prelude.{default_prints, instruction_only, is_index_0}
use Rattle.wat_print_module.specs.Prelude.{paren, number, at_integer, at_word, head_behind, printable_index, Prints, seq_prints, made_prints, whole_prints, whole_where, else_prints, paren_prints, after_prints, group_prints, option_seen, label_prints, OnlyPrintable, only_made, only_weaker, index_prints, printable_expression, unsigned_prints, expression_only, offset_form, data_vals_prints, expression_prints, first_prints}
use Rattle.wat_tokens.specs.Test.{opposite_test}
use Rattle.wat_fields.specs.Offset.{head_last, offset_inside}
use Rattle.wat_print.specs.Laws.Form.{unwritten_prints}
use Rattle.wat_print.specs.Laws.Only.{only_seq}
use Rattle.wat_print_module.specs.Data.{data_memory_form, data_kind_parts, data_kind_form, data_parts, data_form}
use Rattle.wat_fields.specs.Data.{passive, active, data_of, data_memory, data_active, data_kind, data_segment, at_memory, at_passive}
use Rattle.wat_print_module.specs.Laws.Folded.{behind_printable}

-- ---- memories and offsets

-- an offset without the word `offset` is only read
head_only : OnlyPrintable head_last printable_expression
unfolding head_last
head_only =
    only_made (λ _. true) (λ v. head_behind v.0 v.1) printable_expression
    (only_weaker (λ v. printable_expression (head_behind v.0 v.1))
    (λ v f. (behind_printable v.0 v.1 f))
    (only_seq instruction_only expression_only))

pub offset_prints : Prints offset_form (paren offset_inside)
unfolding offset_inside
offset_prints =
    paren_prints (first_prints (at_word (codes "offset"))
    (after_prints expression_prints (codes "offset") refl refl) (λ e r. refl) head_only)

data_memory_prints : Prints data_memory_form data_memory
unfolding data_memory
data_memory_prints =
    whole_where (else_prints at_integer
    (unwritten_prints (made_prints (unsigned_prints 32 (lit≤ tt) (lit≤ tt)) number))
    (default_prints at_memory (group_prints index_prints (codes "memory") refl refl)
    (search rules) printable_index is_index_0 (number 0) (λ i e. grind arith) (λ i e h. h)
    (λ i h. h) refl) tt
    (search rules)) inr printable_index (λ i h. refl) (λ i h. h) (λ v h. grind arith)

-- ---- segments

data_kind_prints : Prints data_kind_form data_kind
unfolding data_kind data_active
data_kind_prints =
    whole_prints (made_prints (option_seen (opposite_test at_passive)
    (made_prints (seq_prints data_memory_prints offset_prints (search rules))
    (λ v. active v.0 v.1)) (search rules)) (λ k. unwrap_or k passive)) data_kind_parts
    (λ k h. grind arith) (λ k h. h) (λ v h. grind arith)

pub data_prints : Prints data_form data_segment
unfolding data_segment
data_prints =
    whole_prints (after_prints (made_prints (seq_prints label_prints
    (seq_prints data_kind_prints data_vals_prints (search rules)) (search rules))
    (λ v. data_of v.0 v.1.0 v.1.1)) (codes "data") refl refl) data_parts (λ d h. refl) (λ d h. h)
    (λ v h. h)

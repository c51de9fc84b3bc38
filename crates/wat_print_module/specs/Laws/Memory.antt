-- Laws: memories are read again.
use Rattle.std.proofs.Common.{◌≡◌, true, not, List, [], ◌∷◌, codes, rules, arith, refl}
use Rattle.wat_print_module.specs.Prelude.{Token, LParen, begins_integer, begins_lparen, at_inline_import, Prints, Unparses, seq_prints, behind_prints, made_prints, whole_prints, else_prints, after_prints, group_prints, width_prints, memory_prints, data_vals_prints, inline_import_prints, head_prints, no_export, no_import_word}
use Rattle.wat_print.specs.Laws.Limits.{page_prints}
use Rattle.wat_fields.specs.Memory.{imported, normal, inline, memory_of, inline_memory, memory_kind, memory, at_inline_data}
use Rattle.wat_print_module.specs.Memory.{inline_memory_form, memory_kind_parts, memory_kind_form, memory_field_parts, memory_field_form}

inline_memory_prints : Unparses inline_memory_form (λ v. inline v.0 v.1.0 v.1.1) inline_memory
unfolding inline_memory
inline_memory_prints =
    made_prints (behind_prints begins_lparen width_prints (seq_prints page_prints
    (group_prints data_vals_prints (codes "data") refl refl) (search rules)) (search rules)
    (search rules)) (λ v. inline v.0 v.1.0 v.1.1)

number_no_paren : (y : List Token) → begins_integer y ≡ true → not (begins_lparen y) ≡ true
number_no_paren (LParen ∷ y) e = absurd cc
number_no_paren [] e = refl
number_no_paren (_ ∷ y) e = refl

memory_kind_prints : Prints memory_kind_form memory_kind
unfolding memory_kind
memory_kind_prints =
    whole_prints (else_prints at_inline_import
    (made_prints (seq_prints inline_import_prints memory_prints (search rules))
    (λ v. imported v.0 v.1))
    (else_prints at_inline_data inline_memory_prints (made_prints memory_prints normal)
    (search rules) (search (rules, number_no_paren))) (λ m n y. refl)
    (search (rules, no_import_word))) memory_kind_parts (λ k h. grind arith) (λ k h. h)
    (λ v h. grind arith)

pub memory_field_prints : Prints memory_field_form memory
unfolding memory
memory_field_prints =
    whole_prints (after_prints (made_prints (seq_prints head_prints memory_kind_prints
    (search (rules, no_export))) (λ v. memory_of v.0 v.1)) (codes "memory") refl refl)
    memory_field_parts (λ m h. refl) (λ m h. h) (λ v h. h)

-- Laws: the signatures of imported and exported items are read again.
use Rattle.std.proofs.Common.{◌≡◌, ℕ, true, false, List, codes, refl, rules, arith}
use Rattle.wat_print_instr.specs.Laws.Prelude.{bytes_eq, Production, at_word, second_word, any, Form, label_form, Unparses, Prints, is_keyword, seq_prints, made_prints, whole_prints, whole_where, respelled, else_prints, after_prints, group_prints, label_prints, memory_prints, table_prints, global_prints, use_prints}
use Rattle.wat_links.specs.Item.{ItemKindModel, table, memory, global, tag, sig_of, exact_use, func_kind_of, func_kind, item_of, global_or_tag, item_sig}
use Rattle.wat_print_module.specs.Item.{exact_parts, exact_form, item_of_form, sig_parts, spell_sig, printable_sig, sig_form}

pub exact_prints : Prints exact_form exact_use
unfolding exact_use
exact_prints =
    whole_prints (else_prints (second_word (codes "exact"))
    (made_prints (group_prints use_prints (codes "exact") refl refl) (λ u. (u, true)))
    (made_prints use_prints (λ u. (u, false))) (search rules) (search rules)) exact_parts
    (λ u h. grind arith) (λ u h. h) (λ v h. grind arith)

item_prints : {A : Type 0} {form : Form A} {view : A → ItemKindModel} {k : Production ItemKindModel}
    (w : List ℕ) → is_keyword w ≡ true → bytes_eq w w ≡ true → Unparses form view k
    → form.Fronts any label_form.follows
    → Unparses (item_of_form w form) (λ v. sig_of v.0 (view v.1)) (item_of w k)
item_prints w i e p f =
    made_prints (after_prints (seq_prints label_prints p f) w i e) (λ v. sig_of v.0 v.1)

pub sig_prints : Prints sig_form item_sig
unfolding item_sig func_kind global_or_tag
sig_prints =
    respelled (whole_where (else_prints (at_word (codes "func"))
    (item_prints (codes "func") refl refl (made_prints exact_prints func_kind_of) (search rules))
    (else_prints (at_word (codes "table"))
    (item_prints (codes "table") refl refl (made_prints table_prints table) (search rules))
    (else_prints (at_word (codes "memory"))
    (item_prints (codes "memory") refl refl (made_prints memory_prints memory) (search rules))
    (else_prints (at_word (codes "global"))
    (item_prints (codes "global") refl refl (made_prints global_prints global) (search rules))
    (item_prints (codes "tag") refl refl (made_prints use_prints tag) (search rules))
    (search rules) (search rules)) (search rules) (search rules)) (search rules) (search rules))
    (search rules) (search rules)) sig_parts printable_sig (λ s h. grind arith)
    (λ s h. grind arith) (λ v h. grind arith)) spell_sig (λ s h. grind arith)

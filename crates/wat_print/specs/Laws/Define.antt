-- Laws: definitions of types, and recursion groups, are read again.
use Rattle.std.proofs.Common.{◌≡◌, ℕ, true, List, codes, ◌⊎◌, rules, arith, refl, lit≤}
use Rattle.wat_print.specs.Laws.Prelude.{bytes_eq, and_parts, at_index, at_word, second_word, type_form, rec_form, pick, Unparses, Prints, is_keyword, flag_prints, seq_prints, made_prints, whole_prints, whole_where, else_prints, option_prints, many_prints, paren_prints, after_prints, label_prints, index_prints, field_prints}
use Rattle.wat_print.specs.Define.{kind_parts, kind_form, link_form, Core, core_form, shared_form, Sub, def_parts, may_have, sub_form, printable_def, def_form, type_parts}
use Rattle.wat_print.specs.Form.{before_unit}
use Rattle.wat_print.specs.Laws.Form.{turn_prints}
use Rattle.wat_types.specs.Define.{func, struct_, array, cont, kind, TypeDefModel, linked, plain_def, described, shared_def, maybe_shared, sub_def, type_def, type_}
use Rattle.wat_types.specs.Laws.Define.{grouped_type_consumes}
use Rattle.wat_types.specs.Recursion.{types, rec}
use Rattle.wat_print.specs.Laws.Function.{function_prints}
use Rattle.wat_print.specs.Laws.Struct.{struct_prints}

-- ---- kinds

pub kind_prints : Prints kind_form kind
unfolding kind
kind_prints =
    whole_prints (else_prints (at_word (codes "func"))
    (made_prints (after_prints function_prints (codes "func") refl refl) func)
    (else_prints (at_word (codes "struct"))
    (made_prints (after_prints struct_prints (codes "struct") refl refl) struct_)
    (else_prints (at_word (codes "array"))
    (made_prints (after_prints field_prints (codes "array") refl refl) array)
    (made_prints (after_prints index_prints (codes "cont") refl refl) cont)
    (search rules) (search rules)) (search rules) (search rules)) (search rules) (search rules))
    kind_parts (λ k h. grind arith) (λ k h. h) (λ v h. grind arith)

-- ---- definitions

link_prints : (w : List ℕ) → is_keyword w ≡ true → bytes_eq w w ≡ true
    → Prints (link_form w) (linked w)
unfolding linked
link_prints w k e =
    option_prints (at_word w) (after_prints (whole_prints (made_prints (seq_prints index_prints
    turn_prints (λ y. refl)) (λ v. v.0)) before_unit (λ i h. refl) (λ i h. h) (λ v h. h)) w k e)
    (λ y i. e)

core_prints : Unparses core_form plain_def described
unfolding described
core_prints =
    made_prints (seq_prints (link_prints (codes "describes") refl refl)
    (seq_prints (link_prints (codes "descriptor") refl refl) kind_prints (search rules))
    (search rules)) plain_def

abbrev def_of : Core ⊎ Core → TypeDefModel
def_of v = pick (λ c. shared_def (plain_def c)) plain_def v

shared_prints : Unparses shared_form def_of maybe_shared
unfolding maybe_shared
shared_prints =
    else_prints (at_word (codes "shared"))
    (made_prints (after_prints (paren_prints core_prints) (codes "shared") refl refl) shared_def)
    core_prints (search rules) (search rules)

abbrev sub_of : Sub ⊎ (Core ⊎ Core) → TypeDefModel
sub_of v = pick (λ s. sub_def (s.0, (s.1.0, def_of s.1.1))) def_of v

sub_prints : Unparses sub_form sub_of type_def
unfolding type_def
sub_prints =
    else_prints (at_word (codes "sub"))
    (made_prints (after_prints (seq_prints (flag_prints (codes "final") refl refl)
    (seq_prints (many_prints at_index index_prints (lit≤ tt) (search rules) (search rules))
    (paren_prints shared_prints) (search rules)) (search rules)) (codes "sub") refl refl) sub_def)
    shared_prints (search rules) (search rules)

def_prints : Prints def_form type_def
def_prints =
    whole_where sub_prints def_parts printable_def (λ d h. grind arith)
    (λ d h. (and_parts (may_have d.final_type d.parents) _ h).1) (λ v h. grind arith)

-- ---- types and recursion groups

pub type_prints : Prints type_form type_
unfolding type_
type_prints =
    whole_prints (made_prints (after_prints (seq_prints label_prints (paren_prints def_prints)
    (search rules)) (codes "type") refl refl) (λ v. record { label = v.0; def = v.1 }))
    type_parts (λ t h. refl) (λ t h. h) (λ v h. h)

pub rec_prints : Prints rec_form rec
unfolding rec types
rec_prints =
    after_prints (many_prints (second_word (codes "type")) (paren_prints type_prints) grouped_type_consumes
    (search rules) (search rules)) (codes "rec") refl refl

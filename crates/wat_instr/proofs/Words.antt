-- No mnemonic is a keyword that a part of an instruction is tested for.
use Rattle.std.proofs.Common.{◌≡◌, ℕ, zero, suc, ◌<◌, Bool, true, false, ◌||◌, List, [], ◌∷◌, length, get_or, codes, refl, subst, sym, arith, ◌⊎◌, inl, inr}
use Rattle.wat_instr.specs.Prelude.{or_parts, Token, RParen, Keyword, begins_word, ends, past_front, op_word, first, table_index, there, index_below, table_length, all_ops, Op, NoTypeSecond, MayFollow}
use Rattle.wat_instr.specs.Follows.{BeginsMnemonic}
use Rattle.wat_instr.proofs.Following.{is_asked, is_untyped, may_follow}

-- one of the mnemonics is such a keyword
abbrev any_asked : List Op → Bool
any_asked [] = false
any_asked (x ∷ xs) = is_asked (op_word x) || any_asked xs

none_asked : any_asked all_ops ≡ false
unfolding past_front
none_asked = refl

asked_at : (xs : List Op) (k : ℕ) → any_asked xs ≡ false → k < length xs → is_asked (op_word (get_or xs k first)) ≡ false
asked_at [] k e l = absurd (omega (arith, l))
asked_at (x ∷ xs) zero e l = (or_parts (is_asked (op_word x)) (any_asked xs) e).0
asked_at (x ∷ xs) (suc k) e l = asked_at xs k ((or_parts (is_asked (op_word x)) (any_asked xs) e).1) (omega (arith, l))

not_asked : (x : Op) → is_asked (op_word x) ≡ false
not_asked x =
    let e = asked_at all_ops (table_index x) none_asked (let l = table_length in let b = index_below x in omega arith) in
    subst (λ (y : Op). is_asked (op_word y) ≡ false) (there x) e

untyped : (r : List Token) → begins_word (codes "type") r ≡ false → begins_word (codes "param") r ≡ false → begins_word (codes "result") r ≡ false → is_untyped r ≡ true
untyped [] p q s = refl
untyped (Keyword w ∷ r) p q s = rw (p, q, s) refl
untyped (_ ∷ r) p q s = refl

follows : (s : List Token) → BeginsMnemonic s ⊎ (ends s ≡ true) → NoTypeSecond s → may_follow s ≡ true
follows s (inl m) e =
    let n : NoTypeSecond (Keyword (op_word m.0) ∷ m.1) = subst NoTypeSecond m.2 e in
    subst (λ (u : List Token). may_follow u ≡ true) (sym m.2) (rw (not_asked m.0) (untyped m.1 n.0 n.1 n.2))
follows [] (inr k) e = refl
follows (RParen ∷ s) (inr k) e = untyped s e.0 e.1 e.2
follows (_ ∷ s) (inr k) e = absurd cc

pub it_may_follow : (s : List Token) → MayFollow s → may_follow s ≡ true
it_may_follow s m = follows s m.0 m.1

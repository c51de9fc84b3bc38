-- Laws: questions that a rest settles keep their answers before that rest.
use Rattle.std.proofs.Common.{sym, ◌∙◌, append_assoc, length-append, arith, ◌≡◌, ℕ, ◌+◌, ◌≤◌, ◌<◌, ltb, Bool, true, false, not, ◌&&◌, ◌||◌, List, [], ◌∷◌, ◌++◌, length, refl, if◌then◌else◌}
use Rattle.std.proofs.lemmas.Bool.Decides.{Decides-ltb}
use Rattle.wat_lexer.specs.Laws.Prelude.{and_parts, or_from, or_left, or_right, and_right, ltb-false, not-true, by_test}
use Rattle.wat_tokens.specs.Prelude.{both_true, Token, LParen, Asks, nothing, ask, also, everything, Alike, opens, closes, Kind, a_lparen, second, Question, starts, after, either, both, opposite, always, answer, sight, settled}
use Rattle.wat_tokens.specs.Asks.{behind}
use Rattle.wat_tokens.specs.Settled.{need_behind, need_no, need}
use Rattle.wat_tokens.specs.Laws.Parens.{opens-append, closes-append}
use Rattle.wat_tokens.specs.Laws.Test.{sees}

flip : (x b : Bool) → not x ≡ b → x ≡ not b
flip true true e = absurd cc
flip true false e = refl
flip false true e = refl
flip false false e = absurd cc

either_stays : (b x y u v : Bool) → (x ≡ b → u ≡ b) → (y ≡ b → v ≡ b) → (x || y) ≡ b
    → (u || v) ≡ b
either_stays true true y u v p q e = or_left u v (p refl)
either_stays true false y u v p q e = or_right u v (q e)
either_stays false true y u v p q e = absurd cc
either_stays false false y u v p q e = or_from u v (p refl) (q e)

both_stay : (b x y u v : Bool) → (x ≡ b → u ≡ b) → (y ≡ b → v ≡ b) → (x && y) ≡ b
    → (u && v) ≡ b
both_stay true true y u v p q e = both_true (p refl) (q e)
both_stay true false y u v p q e = absurd cc
both_stay false true y u v p q e = and_right u v (q e)
both_stay false false y u v p q e = rw (p refl) refl

one_is_more : {P : Type 0} → 1 ≤ 0 → P
one_is_more le = absurd (omega (arith, le))

module _ (off off_second : Question → Bool) (s : List Token)
    (is_off : (a : Question) → off a ≡ true → answer a s ≡ false)
    (is_off_second : (a : Question) → off_second a ≡ true → second (λ r. answer a r) s ≡ false)
  where
    -- a question that one token before the rest answers
    lone_stays : (a : Question) → (if off a then 0 else 1) ≤ 0 → answer a s ≡ false
    lone_stays a le = by_test (off a) (λ o. is_off a o) (λ o. one_is_more (rw o at le))

    pair_stays : (k : Kind) (e r : List Token)
        → (if off (after (starts a_lparen) (starts k)) then 0 else 1) ≤ length e
        → opens e ≤ closes e → answer (after (starts a_lparen) (starts k)) (e ++ r) ≡ false
        → answer (after (starts a_lparen) (starts k)) (e ++ s) ≡ false
    pair_stays k [] r le level h = lone_stays (after (starts a_lparen) (starts k)) le
    pair_stays k (LParen ∷ []) r le level h = absurd (omega (arith, level))
    pair_stays k (LParen ∷ y ∷ e) r le level h = h
    pair_stays k (_ ∷ e) r le level h = refl

    short_stays : (a : Question) (e r : List Token) → (if off_second a then 0 else 1) ≤ length e
        → answer (after (always true) a) (e ++ r) ≡ false → sight a < 2 → off a ≡ true
        → answer (after (always true) a) (e ++ s) ≡ false
    short_stays a [] r le h few o =
        by_test (off_second a) (λ k. is_off_second a k) (λ k. one_is_more (rw k at le))
    short_stays a (x ∷ []) r le h few o = is_off a o
    short_stays a (x ∷ y ∷ e) r le h few o =
        sym (sees a (y ∷ e) r s (omega (arith, few))) ∙ h

    behind_stays : (a : Question) (e r : List Token) → need_behind off off_second a ≤ length e
        → answer (after (always true) a) (e ++ r) ≡ false
        → answer (after (always true) a) (e ++ s) ≡ false
    behind_stays a e r le h =
        by_test (ltb (sight a) 2 && off a)
        (λ k. (let p = and_parts (ltb (sight a) 2) (off a) k in
        short_stays a e r (rw k at le) h ((Decides-ltb (sight a) 2).0 p.0) p.1))
        (λ k. (let far : 1 + sight a ≤ length e = rw k at le in
        sym (sees (after (always true) a) e r s (omega (arith, far))) ∙ h))

    no_stays : (a : Question) (e r : List Token) → need_no off off_second a ≤ length e
        → opens e ≤ closes e → answer a (e ++ r) ≡ false → answer a (e ++ s) ≡ false
    no_stays (starts k) [] r le level h = lone_stays (starts k) le
    no_stays (starts k) (x ∷ e) r le level h = h
    no_stays (after (starts a_lparen) (starts k)) e r le level h = pair_stays k e r le level h
    no_stays (after (always true) a) e r le level h = behind_stays a e r le h
    no_stays a e r le level h = sym (sees a e r s le) ∙ h

    stays : (b : Bool) (a : Question) (e r : List Token) → need off off_second b a ≤ length e
        → opens e ≤ closes e → answer a (e ++ r) ≡ b → answer a (e ++ s) ≡ b
    stays b (either a c) e r le level h =
        either_stays b (answer a (e ++ r)) (answer c (e ++ r)) (answer a (e ++ s)) (answer c (e ++ s))
        (λ k. stays b a e r (omega (arith, le)) level k)
        (λ k. stays b c e r (omega (arith, le)) level k) h
    stays b (both a c) e r le level h =
        both_stay b (answer a (e ++ r)) (answer c (e ++ r)) (answer a (e ++ s)) (answer c (e ++ s))
        (λ k. stays b a e r (omega (arith, le)) level k)
        (λ k. stays b c e r (omega (arith, le)) level k) h
    stays b (opposite a) e r le level h =
        sym (flip b (answer a (e ++ s))
        (sym (stays (not b) a e r le level (flip (answer a (e ++ r)) b h))))
    stays true a e r le level h = sym (sees a e r s le) ∙ h
    stays false a e r le level h = no_stays a e r le level h

    enough : (k n m : ℕ) → not (ltb k n) ≡ true → k ≤ m → n ≤ m
    enough k n m e le = omega (arith, ltb-false k n (not-true (ltb k n) e), le)

    all_stay : (a : Asks) (k : ℕ) (e r : List Token) → k ≤ length e → opens e ≤ closes e
        → settled off off_second k a ≡ true → Alike a (e ++ r) (e ++ s)
    all_stay nothing k e r le level h = tt
    all_stay (ask b test) k e r le level h = λ i.
        stays b test.asks e r (enough k (need off off_second b test.asks) (length e) h le) level i
    all_stay (also a b) k e r le level h =
        let p = and_parts (settled off off_second k a) (settled off off_second k b) h in
        (all_stay a k e r le level p.0, all_stay b k e r le level p.1)
    all_stay (behind j a) k e r le level h = λ d few flat.
        rw (← append_assoc d e r, ← append_assoc d e s)
        (all_stay a (j + k) (d ++ e) r (omega (arith, length-append d e, le, few))
        (omega (arith, opens-append d e, closes-append d e, level, flat)) h)
    all_stay everything k e r le level h = absurd cc

    pub settled_alike : (a : Asks) (r : List Token) → settled off off_second 0 a ≡ true
        → Alike a r s
    settled_alike a r h = all_stay a 0 [] r (omega arith) (omega arith) h

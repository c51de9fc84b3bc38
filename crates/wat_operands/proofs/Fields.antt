-- The text after the prefix of a word.
use Rattle.std.proofs.Common.{Bor, ◌≡◌, ◌≢◌, ℕ, ◌==◌, List, [], ◌∷◌, ◌++◌, drop, Option, Some, None, option_map, MatchOption, refl, ap, sym, ◌∙◌}
use Rattle.std.specs.Str.Pattern.{LacksTextAt, FindsTextPrefix, StripsPrefix}
use Rattle.wat_operands.specs.Prelude.{unsigned_Decides, by_test, past_front, past_own_front}

abbrev some_text : List ℕ → Option (List ℕ)
some_text u = Some u

past_no_front : (front text : List ℕ) → ((rest : List ℕ) → text ≢ front ++ rest) → past_front front text ≡ None
unfolding past_front
past_no_front [] text lacks = absurd (lacks text refl)
past_no_front (b ∷ front) [] lacks = refl
past_no_front (b ∷ front) (c ∷ text) lacks =
    by_test (b == c)
    (λ t.
    (let e : b ≡ c = (unsigned_Decides b c).0 t in
    rw t (past_no_front front text (λ rest f. lacks rest (ap (λ (u : List ℕ). c ∷ u) f ∙ ap (λ (u : ℕ). u ∷ (front ++ rest)) (sym e))))))
    (λ t. rw t refl)

-- the result of `strip_prefix`
pub past_front_is : (front text : List ℕ) (r : Option (Bor (List ℕ))) → MatchOption r (LacksTextAt front text 0) (λ x. StripsPrefix (FindsTextPrefix front) text x.now) → option_map (λ x. x.now) r ≡ past_front front text
past_front_is front text None lacks = sym (past_no_front front text lacks)
past_front_is front text (Some x) s =
    ap (λ (u : List ℕ). some_text u) s.2 ∙ sym (ap (λ (u : List ℕ). past_front front u) s.1.1 ∙ past_own_front front (drop s.0 text))

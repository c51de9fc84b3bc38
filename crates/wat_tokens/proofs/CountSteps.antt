-- The counts of one step of the parser.
use Rattle.std.proofs.Common.{◌≡◌, ◌≢◌, ℕ, ◌+◌, ◌≤◌, List, [], ◌∷◌, ◌++◌, length, max, refl, drop, take, arith, sym, ap, ◌∙◌, subst}
use Rattle.wat_tokens.specs.Visible.{behind_one}
use Rattle.wat_tokens.specs.Laws.Prelude.{append_cancel_right, Token, nest, State, placed_behind, Counts, Carries, Quiet, carries_of, carried, counts_within, TakesPrefix}

some_left : (l : List Token) → l ≢ [] → (take 1 l ++ drop 1 l ≡ l) × (length (take 1 l) ≡ 1)
some_left [] f = absurd (f refl)
some_left (x ∷ l) f = (refl, refl)

-- one token was taken
pub carries_step : (a b : State) → a.left ≢ [] → b.left ≡ drop 1 a.left → b.taken ≡ a.taken + 1 → Quiet a b → b.known ≡ a.known → b.rest ≡ behind_one a.known a.rest → Carries a b
unfolding Counts placed_behind
carries_step a b some l t q k e =
    let s = some_left a.left some in
    carries_of a b (record { front = take 1 a.left; left = sym s.0 ∙ ap (λ l. take 1 a.left ++ l) (sym l); taken = omega (arith, t, s.1); more = (omega (arith, q.0), omega (arith, q.1), omega (arith, q.2), omega (arith, q.3)); peak = omega (arith, q.2); known = k; position = e ∙ ap (λ (n : ℕ). placed_behind a.known n a.rest) (sym s.1) })

-- no token was taken, and `peak` stayed
pub carries_still : (a b : State) → b.left ≡ a.left → b.taken ≡ a.taken → a.turns ≤ b.turns → a.probes ≤ b.probes → a.held ≤ b.held → b.peak ≡ a.peak → b.known ≡ a.known → b.rest ≡ a.rest → Carries a b
unfolding Counts placed_behind
carries_still a b l t m n h p k e = carries_of a b (record { front = []; left = sym l; taken = omega (arith, t); more = (m, n, omega (arith, p), h); peak = omega (arith, p); known = k; position = e })

-- `TakesPrefix` from `Carries`: the tokens taken are a prefix, and the counts are the prefix's
pub takes_prefix : (a b : State) → Carries a b → TakesPrefix a b
unfolding Counts
takes_prefix a b f =
    let p = carried a b f in
    let same : (c : List Token) → a.left ≡ c ++ b.left → p.front ≡ c = λ c e. append_cancel_right p.front c b.left (sym p.left ∙ e) in
    record {
      end = (p.front, p.left);
      position = λ c e. p.position ∙ ap (λ (l : List Token). placed_behind a.known (length l) a.rest) (same c e);
      taken = λ c e. p.taken ∙ ap (λ (l : List Token). a.taken + length l) (same c e);
      within = counts_within a b f;
      peak = λ c e. subst (λ (l : List Token). b.peak ≤ max a.peak (nest l)) (same c e) p.peak;
      grows = p.more;
    }

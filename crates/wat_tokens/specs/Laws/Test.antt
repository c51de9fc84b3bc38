-- Laws: an answer depends on a limited number of tokens, and not on what follows the end of a group.
use Rattle.std.proofs.Common.{ap, sym, ◌∙◌, append_assoc, arith, ◌≡◌, ◌≤◌, Bool, true, false, not, ◌&&◌, ◌||◌, List, [], ◌∷◌, ◌++◌, length, refl}
use Rattle.wat_lexer.specs.Laws.Prelude.{and_parts, not-true, by_test}
use Rattle.wat_tokens.specs.Prelude.{Token, LParen, RParen, Asks, nothing, ask, also, everything, Alike, Kind, a_lparen, a_rparen, fits, next_is, ends, Question, starts, after, either, both, opposite, always, answer, sight, denies_end}
use Rattle.wat_tokens.specs.Asks.{behind}
use Rattle.wat_tokens.specs.Test.{ended, is_content, is_mute, is_calm}

-- no token, or a parenthesis
abbrev pub is_quiet : List Token → Bool
is_quiet [] = true
is_quiet (LParen ∷ r) = true
is_quiet (RParen ∷ r) = true
is_quiet (_ ∷ r) = false

-- ---- the number of tokens

pub sees : (a : Question) (e r s : List Token) → sight a ≤ length e
    → answer a (e ++ r) ≡ answer a (e ++ s)
sees (starts k) [] r s le = absurd (omega (arith, le))
sees (starts k) (x ∷ e) r s le = refl
sees ended [] r s le = absurd (omega (arith, le))
sees ended (RParen ∷ e) r s le = refl
sees ended (_ ∷ e) r s le = refl
sees (after a b) [] r s le = absurd (omega (arith, le))
sees (after a b) (x ∷ e) r s le =
    rw (sees a (x ∷ e) r s (omega (arith, le)), sees b e r s (omega (arith, le))) refl
sees (either a b) e r s le =
    rw (sees a e r s (omega (arith, le)), sees b e r s (omega (arith, le))) refl
sees (both a b) e r s le =
    rw (sees a e r s (omega (arith, le)), sees b e r s (omega (arith, le))) refl
sees (opposite a) e r s le = ap not (sees a e r s le)
sees (always b) e r s le = refl

-- ---- what follows the end of a group

content_off : (k : Kind) → is_content k ≡ true → (fits k LParen ≡ false) × (fits k RParen ≡ false)
content_off a_lparen e = absurd cc
content_off a_rparen e = absurd cc
content_off _ e = (refl, refl)

quiet_off : (k : Kind) (r : List Token) → is_content k ≡ true → is_quiet r ≡ true
    → next_is k r ≡ false
quiet_off k [] c q = refl
quiet_off k (LParen ∷ r) c q = (content_off k c).0
quiet_off k (RParen ∷ r) c q = (content_off k c).1
quiet_off k (_ ∷ r) c q = absurd cc

mute_same : (a : Question) (r s : List Token) → is_mute a ≡ true → is_quiet r ≡ true
    → is_quiet s ≡ true → answer a r ≡ answer a s
mute_same (starts k) r s m p q = quiet_off k r m p ∙ sym (quiet_off k s m q)
mute_same (either a b) r s m p q =
    let k = and_parts (is_mute a) (is_mute b) m in
    rw (mute_same a r s k.0 p q, mute_same b r s k.1 p q) refl
mute_same (both a b) r s m p q =
    let k = and_parts (is_mute a) (is_mute b) m in
    rw (mute_same a r s k.0 p q, mute_same b r s k.1 p q) refl
mute_same (opposite a) r s m p q = ap not (mute_same a r s m p q)
mute_same (always b) r s m p q = refl
mute_same _ r s m p q = absurd cc

pub end_denied : (a : Question) (r : List Token) → denies_end a ≡ true → ends r ≡ true
    → answer a r ≡ false
end_denied (starts k) [] d q = refl
end_denied (starts k) (RParen ∷ r) d q = not-true (fits k RParen) d
end_denied (starts k) (_ ∷ r) d q = absurd cc
end_denied (after a b) r d q = rw (end_denied a r d q) refl
end_denied (either a b) r d q =
    let k = and_parts (denies_end a) (denies_end b) d in
    rw (end_denied a r k.0 q, end_denied b r k.1 q) refl
end_denied (both a b) r d q = rw (end_denied a r d q) refl
end_denied _ r d q = absurd cc

calm_same : (a : Question) (e r s : List Token) → is_calm a ≡ true → is_quiet r ≡ true
    → is_quiet s ≡ true → answer a (e ++ RParen ∷ r) ≡ answer a (e ++ RParen ∷ s)
calm_same (starts k) [] r s c p q = refl
calm_same (starts k) (x ∷ e) r s c p q = refl
calm_same ended [] r s c p q = refl
calm_same ended (RParen ∷ e) r s c p q = refl
calm_same ended (_ ∷ e) r s c p q = refl
calm_same (after a b) [] r s c p q =
    let k = and_parts (is_calm a) ((denies_end a || is_mute b) && is_calm b) c in
    by_test (denies_end a)
    (λ d. rw (end_denied a (RParen ∷ r) d refl, end_denied a (RParen ∷ s) d refl) refl)
    (λ d. (let m = and_parts (is_mute b) (is_calm b) (rw d at k.1) in
    rw (calm_same a [] r s k.0 p q, mute_same b r s m.0 p q) refl))
calm_same (after a b) (x ∷ e) r s c p q =
    let k = and_parts (is_calm a) ((denies_end a || is_mute b) && is_calm b) c in
    let m = and_parts (denies_end a || is_mute b) (is_calm b) k.1 in
    rw (calm_same a (x ∷ e) r s k.0 p q, calm_same b e r s m.1 p q) refl
calm_same (either a b) e r s c p q =
    let k = and_parts (is_calm a) (is_calm b) c in
    rw (calm_same a e r s k.0 p q, calm_same b e r s k.1 p q) refl
calm_same (both a b) e r s c p q =
    let k = and_parts (is_calm a) (is_calm b) c in
    rw (calm_same a e r s k.0 p q, calm_same b e r s k.1 p q) refl
calm_same (opposite a) e r s c p q = ap not (calm_same a e r s c p q)
calm_same (always b) e r s c p q = refl

-- rests that close the group are alike for every question
calm_alike : (a : Asks) (e r s : List Token) → is_quiet r ≡ true → is_quiet s ≡ true
    → Alike a (e ++ RParen ∷ r) (e ++ RParen ∷ s)
calm_alike nothing e r s p q = tt
calm_alike (ask b test) e r s p q = λ k. sym (calm_same test.asks e r s test.calm p q) ∙ k
calm_alike (also a b) e r s p q = (calm_alike a e r s p q, calm_alike b e r s p q)
calm_alike (behind k a) e r s p q = λ d le level.
    rw (← append_assoc d e (RParen ∷ r), ← append_assoc d e (RParen ∷ s))
    (calm_alike a (d ++ e) r s p q)
calm_alike everything e r s p q = λ d b test k.
    rw (← append_assoc d e (RParen ∷ s)) (sym (calm_same test.asks (d ++ e) r s test.calm p q)
    ∙ (rw (append_assoc d e (RParen ∷ r)) k))

pub closed_alike : (a : Asks) (r s : List Token) → is_quiet r ≡ true → is_quiet s ≡ true
    → Alike a (RParen ∷ r) (RParen ∷ s)
closed_alike a r s p q = calm_alike a [] r s p q

-- Heights of a stack, and taken tokens.
use Rattle.std.proofs.Common.{max, length, ◌≡◌, ℕ, ◌+◌, ◌≤◌, ◌<◌, List, [], ◌∷◌, ap, arith}
use Rattle.wat_expr.specs.Prelude.{Token, LParen, RParen, opens, closes, opens-append, closes-append, State, Carries}
use Rattle.wat_tokens.specs.Parens.{rise, nest}
use Rattle.wat_tokens.specs.Counts.{Counts}
use Rattle.wat_tokens.specs.Laws.Counts.{carried, carries_of, counts_within}

-- the excess of `(` over `)` is at most `rise`, and `rise` is at most `nest`
rises : (c : List Token) → opens c ≤ closes c + rise c
rises [] = omega arith
rises (LParen ∷ c) = omega (arith, rises c)
rises (RParen ∷ c) = omega (arith, rises c)
rises (_ ∷ c) = rises c

nests : (c : List Token) → rise c ≤ nest c
nests [] = omega arith
nests (x ∷ c) = omega arith

-- A height may be noted if it is the excess of `(` over `)` in the taken tokens.
pub carries_height : (a b e : State) (k : ℕ) → Carries a b → k + closes a.left + opens b.left ≡ opens a.left + closes b.left → e ≡ record b { peak = max b.peak k } → Carries a e
unfolding Counts
carries_height a b e k f l q =
    let p = carried a b f in
    let o = ap opens p.left in
    let s = ap closes p.left in
    let n : k ≤ nest p.front = omega (arith, l, o, s, opens-append p.front b.left, closes-append p.front b.left, rises p.front, nests p.front) in
    let c : Counts a (record b { peak = max b.peak k }) = record { front = p.front; left = p.left; taken = p.taken; more = (p.more.0, p.more.1, omega (arith, p.more.2), p.more.3); peak = omega (arith, p.peak, n); known = p.known; position = p.position } in
    rw q (carries_of a (record b { peak = max b.peak k }) c)

-- taken tokens stay taken
pub taken_more : (a b : State) → Carries a b → a.taken ≤ b.taken
unfolding Counts
taken_more a b f = let p = carried a b f in omega (arith, p.taken)

-- if fewer tokens are left, more tokens were taken
pub taken_one : (a b : State) → Carries a b → length b.left < length a.left → a.taken + 1 ≤ b.taken
taken_one a b f l = let p = counts_within a b f in omega (arith, p, l)

-- with a refused turn, there is at most one more turn than taken tokens
pub refused_turns : (a b t u : State) → b.turns + a.taken ≤ a.turns + b.taken → t ≡ record b { turns = b.turns + 1 } → Carries t u → u.turns ≡ t.turns → u.turns + a.taken ≤ a.turns + u.taken + 1
refused_turns a b t u l e c f = omega (arith, l, ap (λ (y : State). y.turns) e, ap (λ (y : State). y.taken) e, taken_more t u c, f)

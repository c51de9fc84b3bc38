-- Laws: a parser as contracts see it.
use Rattle.std.proofs.Common.{◌≡◌, List, ℕ, zero, suc, ◌+◌, Bool, true, ap, sym, ◌∙◌, arith}
use Rattle.wat_lexer.specs.Token.{Token, Placed}
use Rattle.wat_tokens.specs.Prelude.{behind_one, placed_behind, State, annotated, seen}

pub behind_then : (known : Bool) (m n : ℕ) (ts : List Placed)
    → placed_behind known n (placed_behind known m ts) ≡ placed_behind known (m + n) ts
unfolding placed_behind
behind_then known zero n ts =
    ap (λ (k : ℕ). placed_behind known k ts) {x = n} {y = 0 + n} (omega arith)
behind_then known (suc m) n ts =
    behind_then known m n (behind_one known ts)
    ∙ ap (λ (k : ℕ). placed_behind known k ts) {x = suc (m + n)} {y = suc m + n} (omega arith)

pub annotated_is : (s : State) → s.known ≡ true → s.left ≡ seen s.known s.rest
    → annotated s ≡ s
annotated_is s k e =
    let f : seen true s.rest ≡ s.left = rw (← k) (sym e) in
    ap (λ (p : Bool × List Token). record s { known = p.0; left = p.1 })
    {x = (true, seen true s.rest)} {y = (s.known, s.left)} (cc)

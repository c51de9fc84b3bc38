-- Laws: how a call changes the counts of a parser.
use Rattle.std.proofs.Common.{◌≡◌, Bool, ℕ, ◌+◌, List, [], ◌++◌, length, refl, arith, length-append, append_assoc, sym, ap, ◌∙◌}
use Rattle.wat_lexer.specs.Token.{Placed}
use Rattle.wat_tokens.specs.Prelude.{State, placed_behind, Counts, Carries}
use Rattle.wat_tokens.specs.Laws.Parens.{nest_front, nest_end}
use Rattle.wat_tokens.specs.Laws.State.{behind_then}

pub counts_then : (a b e : State) → Counts a b → Counts b e → Counts a e
unfolding Counts
counts_then a b e p q = record {
  front = p.front ++ q.front;
  left = p.left ∙ ap (λ l. p.front ++ l) q.left ∙ sym (append_assoc p.front q.front e.left);
  taken = omega (arith, p.taken, q.taken, length-append p.front q.front);
  more = (
    omega (arith, p.more.0, q.more.0),
    omega (arith, p.more.1, q.more.1),
    omega
        (arith, p.more.2, q.more.2),
    omega (arith, p.more.3, q.more.3),
  );
  peak = omega (arith, p.peak, q.peak, nest_front p.front q.front, nest_end p.front q.front);
  known = q.known ∙ p.known;
  position = q.position ∙ ap (λ (k : Bool). placed_behind k (length q.front) b.rest) p.known
      ∙ ap (λ (ts : List Placed). placed_behind a.known (length q.front) ts) p.position
      ∙ behind_then a.known (length p.front) (length q.front) a.rest
      ∙ ap (λ (n : ℕ). placed_behind a.known n a.rest) (sym (length-append p.front q.front));
}

pub counts_none : (a : State) → Counts a a
unfolding Counts placed_behind
counts_none a =
    record {
      front = [];
      left = refl;
      taken = omega arith;
      more =
          (omega arith, omega arith, omega arith, omega arith);
      peak =
          omega arith;
      known = refl;
      position = refl;
    }

pub carries_of : (a b : State) → Counts a b → Carries a b
carries_of a b p s q = counts_then s a b q p

-- `Carries a b` gives `Counts a b`
pub carried : (a b : State) → Carries a b → Counts a b
carried a b f = f a (counts_none a)

-- the number of tokens taken and left together does not change
pub counts_within : (a b : State) → Carries a b → b.taken + length b.left ≡ a.taken + length a.left
unfolding Counts
counts_within a b f =
    let p = carried a b f in omega (arith, p.taken, ap length p.left, length-append p.front b.left)

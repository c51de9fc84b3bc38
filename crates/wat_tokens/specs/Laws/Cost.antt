-- Laws: the counts of consecutive calls.
use Rattle.std.proofs.Common.{◌∙◌}
use Rattle.wat_tokens.specs.Prelude.{Cost, tokens_alone, words_too, turns_too, Costs, Quiet, State}

pub costs_then : (k : Cost) (a b e : State) → Costs k a b → Costs k b e → Costs k a e
costs_then tokens_alone a b e p q = (q.0 ∙ p.0, q.1 ∙ p.1, q.2 ∙ p.2, q.3 ∙ p.3)
costs_then words_too a b e p q = (q.0 ∙ p.0, q.1 ∙ p.1, q.2 ∙ p.2)
costs_then turns_too a b e p q = tt

pub quiet_costs : (k : Cost) (a b : State) → Quiet a b → Costs k a b
quiet_costs tokens_alone a b p = p
quiet_costs words_too a b p = (p.0, p.2, p.3)
quiet_costs turns_too a b p = tt

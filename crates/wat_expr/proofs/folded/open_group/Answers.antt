use Rattle.std.specs.Prelude.{refl, None}
use Rattle.wat_expr.proofs.Instructions.{opens_behind, no_instruction}
use Rattle.wat_expr.proofs.folded.open_group.Goals as goal

pub returns-in-Ok-clause-exact : goal.returns-in-Ok-clause-exact
returns-in-Ok-clause-exact c = opens_behind _ _ (record { span = c.prev_span-span.result; hint = None }) _ _ _ _ _ c.in-Ok.ensures.exact refl c.hold.ensures.exact

pub returns-in-Err-clause-exact : goal.returns-in-Err-clause-exact
returns-in-Err-clause-exact c = λ n. no_instruction _ c.in-Err.ensures.exact

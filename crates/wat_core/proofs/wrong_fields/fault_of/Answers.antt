use Rattle.wat_core.proofs.wrong_fields.fault_of.Goals as goal

pub returns-in-Ok-clause-told : goal.returns-in-Ok-clause-told
returns-in-Ok-clause-told g c = (_, c.in-Ok.ensures.found)

pub returns-in_default-clause-told : goal.returns-in_default-clause-told
returns-in_default-clause-told g c = (c.in_default.not-Memory, λ is. c.in_default.not-Memory (c.in-Err.ensures.only is.0 is.1))

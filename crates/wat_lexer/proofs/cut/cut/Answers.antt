use Rattle.std.proofs.Common.{◌∙◌, sym}
use Rattle.wat_lexer.specs.Cut.{cutting}
use Rattle.wat_lexer.proofs.Outcomes.{left_open, no_cut, closed_anyway, told_anyway}
use Rattle.wat_lexer.specs.Laws.Fronts as fronts
use Rattle.wat_lexer.proofs.cut.cut.Goals as goal

pub returns-in-Err-clause-fault : goal.returns-in-Err-clause-fault
returns-in-Err-clause-fault c = λ no_memory. let (at, fails, place) = c.in-Err.ensures.fails no_memory in rw place (cutting c.args.text.now c.in-Err.e.fault at fails)

pub returns-in-Err-clause-none : goal.returns-in-Err-clause-none
returns-in-Err-clause-none c = λ no_memory ts cut. fronts.no_cut (c.in-Err.ensures.fails no_memory).1 cut.0

pub returns-in-Some-clause-fault : goal.returns-in-Some-clause-fault
returns-in-Some-clause-fault c = λ no_memory.
    left_open c.fault_at-in-Some.result c.in-Ok.ensures.found (rw c.in-Some.is at c.in_ok-offset.ensures.first) c.fault_at-in-Some.ensures.fault c.fault_at-in-Some.ensures.place

pub returns-in-Some-clause-none : goal.returns-in-Some-clause-none
returns-in-Some-clause-none c = λ no_memory ts. no_cut c.args.text.now _ _ ts (returns-in-Some-clause-fault c no_memory)

pub returns-in-None-clause-found : goal.returns-in-None-clause-found
returns-in-None-clause-found c = rw c.tell_skips.ensures.same (c.in-Ok.ensures.found, rw c.in-None.is at c.in_ok-offset.ensures.first)

pub returns-clause-found : goal.returns-clause-found
returns-clause-found c = (c.in-Ok.ensures.found, closed_anyway c.in-Ok.parts.0 (sym c.in-Ok.ensures.noted ∙ c.if-noted.false))

pub returns-clause-skips : goal.returns-clause-skips
returns-clause-skips c = told_anyway c.in-Ok.parts.0 (sym c.in-Ok.ensures.noted ∙ c.if-noted.false)

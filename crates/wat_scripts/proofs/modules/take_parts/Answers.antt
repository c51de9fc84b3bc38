use Rattle.std.proofs.Common.{arith}
use Rattle.wat_scripts.specs.Steps.{front}
use Rattle.wat_scripts.proofs.Outcomes.{if_ok, if_refused}
use Rattle.wat_scripts.proofs.Parts.{part_none, part_then, parts_then, none_then}
use Rattle.wat_scripts.proofs.modules.take_parts.Goals as goal

pub parts-init : goal.parts-init
parts-init c = record {
  ready = c.requires.ready;
  passed = part_none (front c.args.parser.now) c.args.modules.now.items;
  fewer = omega arith;
}

pub parts-preserved : goal.parts-preserved
parts-preserved c = record {
  ready = c.in-Ok.ensures.ready;
  passed = part_then c.parts.invariant.passed c.in-Ok.ensures.passes;
  fewer = omega (arith, c.in-Ok.ensures.less, c.parts.invariant.fewer);
}

pub returns-in-Err-clause-refused : goal.returns-in-Err-clause-refused
returns-in-Err-clause-refused c = λ denied.
    let (is, h) = c.in-Err.ensures.refused denied in
    (is, none_then c.parts.invariant.passed h)

pub returns-clause-passes : goal.returns-clause-passes
returns-clause-passes c = if_ok c.pass_close.result (parts_then c.parts.invariant.passed) c.pass_close.ensures.passes

pub returns-clause-refused : goal.returns-clause-refused
returns-clause-refused c = if_refused c.pass_close.result (none_then c.parts.invariant.passed) c.pass_close.ensures.refused

pub returns-clause-less : goal.returns-clause-less
returns-clause-less c = if_ok c.pass_close.result (λ lt. omega (arith, lt, c.parts.invariant.fewer)) c.pass_close.ensures.less

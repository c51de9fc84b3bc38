use Rattle.std.proofs.Common.{◌∙◌, ap, sym, List}
use Rattle.wat_lexer.specs.Prelude.{Token}
use Rattle.wat_tokens.specs.Tests.{none_left}
use Rattle.wat_scripts.specs.Steps.{front}
use Rattle.wat_scripts.proofs.Fronts.{left_is, empty}
use Rattle.wat_scripts.proofs.Commands.{command_none, command_then, commands_fail, commands_end, commands_only}
use Rattle.wat_scripts.proofs.script.take_commands.Goals as goal

pub commands-init : goal.commands-init
commands-init c = record {
  ready = c.requires;
  passed = command_none (front c.args.parser.now) _ _ c.new-modules.ensures.items;
}

pub commands-preserved : goal.commands-preserved
commands-preserved c = record {
  ready = c.in-Ok.ensures.ready;
  passed = command_then c.commands.invariant.passed c.in-Ok.ensures.passes;
}

pub returns-in-Err-clause-refused : goal.returns-in-Err-clause-refused
returns-in-Err-clause-refused c = λ denied.
    let (is, h) = c.in-Err.ensures.refused denied in
    (is, commands_fail c.commands.invariant.passed h)

pub returns-clause-found : goal.returns-clause-found
returns-clause-found c =
    let over = empty (front c.commands.parser) (ap (λ (t : List Token). none_left t) (sym (left_is c.commands.invariant.ready)) ∙ sym c.at_end.ensures ∙ (cc)) in
    commands_end c.commands.invariant.passed over

pub returns-clause-only : goal.returns-clause-only
returns-clause-only c =
    let over = empty (front c.commands.parser) (ap (λ (t : List Token). none_left t) (sym (left_is c.commands.invariant.ready)) ∙ sym c.at_end.ensures ∙ (cc)) in
    commands_only c.commands.invariant.passed over

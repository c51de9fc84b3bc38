use Rattle.std.proofs.Common.{◌∙◌, ap, sym, refl, List, codes}
use Rattle.wat_lexer.specs.Prelude.{Token}
use Rattle.wat_tokens.specs.Tests.{begins_group, begins_lparen}
use Rattle.wat_scripts.specs.Steps.{front}
use Rattle.wat_scripts.proofs.Fronts.{left_is}
use Rattle.wat_scripts.proofs.Heads.{other_passes}
use Rattle.wat_scripts.proofs.modules.pass_other.Goals as goal

pub returns-in-Ok-clause-passes : goal.returns-in-Ok-clause-passes
returns-in-Ok-clause-passes c =
    let (to, _, ends) = c.in-Ok.ensures.closed in
    other_passes (front c.args.parser.now) _ to _ _
    (ap (λ (t : List Token). begins_lparen t) (sym (left_is c.requires.ready)) ∙ c.requires.group)
    (ap (λ (t : List Token). begins_group (codes "module") t) (sym (left_is c.requires.ready)) ∙ c.requires.other)
    ends refl

pub returns-in-Err-clause-refused : goal.returns-in-Err-clause-refused
returns-in-Err-clause-refused c = λ _. c.in-Err.ensures.unclosed

use Rattle.std.proofs.Common.{◌∙◌, ap, sym, List, true, false}
use Rattle.wat_lexer.specs.Prelude.{Token}
use Rattle.wat_tokens.specs.Tests.{begins_word}
use Rattle.wat_scripts.specs.Steps.{front}
use Rattle.wat_scripts.proofs.Fronts.{left_is, place_is, offset_is, no_offset}
use Rattle.wat_scripts.proofs.groups.offset_if.Goals as goal

pub returns-then-next_is : goal.returns-then-next_is
returns-then-next_is c =
    offset_is c.args.word.now (front c.args.parser.now) c.offset.result
    (ap (λ (t : List Token). begins_word c.args.word.now t) (sym (left_is c.requires)) ∙ sym c.next_is.ensures ∙ c.if-next_is.true)
    (place_is _ c.requires (rw c.offset.ensures c.cur_span.ensures))

pub returns-else-next_is : goal.returns-else-next_is
returns-else-next_is c =
    no_offset c.args.word.now (front c.args.parser.now)
    (ap (λ (t : List Token). begins_word c.args.word.now t) (sym (left_is c.requires)) ∙ sym c.next_is.ensures ∙ c.if-next_is.false)

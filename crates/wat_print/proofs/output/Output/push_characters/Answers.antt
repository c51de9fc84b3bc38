use Rattle.std.proofs.lemmas.Iterator.{YieldsList-from_chars}
use Rattle.std.proofs.lemmas.Iterator.Consumers.{YieldsList-end}
use Rattle.std.proofs.lemmas.Result.{on_ok_weaker}
use Rattle.wat_print.specs.Laws.Characters.{page_more, page_closed}
use Rattle.wat_print.proofs.output.Output.push_characters.Goals as goal

pub loop-c-preserved : goal.loop-c-preserved
loop-c-preserved c =
    page_more c.args.self.now _ _ c.loop-c.yielded c.in-Some.c c.loop-c.invariant
    c.in_ok-push_character.ensures

pub returns : goal.returns
returns c =
    let all = YieldsList-end (YieldsList-from_chars c.args.text.now c.utf8.text cc) c.loop-c.yielded
    _ c.loop-c.yielded_by _ _ c.in-None.is c.next.ensures.steps in
    on_ok_weaker c.push_quote.result
    (page_closed c.args.self.now _ _ c.args.text.now c.loop-c.yielded c.utf8.text all.0
    c.loop-c.invariant)
    c.push_quote.ensures

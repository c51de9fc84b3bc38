use Rattle.std.proofs.Common.{arith, ◌+◌, ◌-◌, ap, sym, ◌∙◌, true, false}
use Rattle.wat_lexer.proofs.Skips.{skips_later}
use Rattle.wat_lexer.proofs.Closing.{marked_same, marked_skips, second_within, second_annotates}
use Rattle.wat_lexer.proofs.groups.tell_skip.Goals as goal

pub hidden_count-requires-clause-skips : goal.hidden_count-requires-clause-skips
hidden_count-requires-clause-skips c = skips_later c.args.tokens.now (c.args.at + 1) c.args.end (omega arith) c.requires.skips

pub hidden_count-requires-2-clause-skips : goal.hidden_count-requires-2-clause-skips
hidden_count-requires-2-clause-skips c = skips_later c.args.tokens.now (c.args.at + 1) c.args.end (omega arith) c.requires.skips

pub set_skips-requires-clause-place : goal.set_skips-requires-clause-place
set_skips-requires-clause-place c = second_within c.args.tokens.now c.args.at c.requires.begins

pub set_skips-requires-clause-annotates : goal.set_skips-requires-clause-annotates
set_skips-requires-clause-annotates c = second_annotates c.args.tokens.now c.args.at c.requires.begins

pub returns-clause-same : goal.returns-clause-same
returns-clause-same c = rw c.set_skips.ensures (marked_same c.args.tokens.now (c.args.at + 1) _)

pub returns-clause-skips : goal.returns-clause-skips
returns-clause-skips c =
    let size = c.args.end - c.args.at in
    rw c.set_skips.ensures (marked_skips c.args.tokens.now c.args.at _ c.requires.begins c.requires.skips (elim [
      | false ↦ λ h. sym (c.requires.counts false h ∙ ap (λ k. size + k) (sym c.hidden_count.ensures.value))
      | true ↦ λ h. sym (c.requires.counts true h ∙ ap (λ k. size + k) (sym c.hidden_count-2.ensures.value))
    ]))

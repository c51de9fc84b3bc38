use Rattle.std.specs.Prelude.{codes, decimal}
use Rattle.std.proofs.lemmas.Result.{on_ok_weaker}
use Rattle.wat_report.specs.HintWords.{groups_words}
use Rattle.wat_report.proofs.Added.{five_added}
use Rattle.wat_report.proofs.hint_words.add_groups.Goals as goal

pub returns : goal.returns
unfolding groups_words
returns c = on_ok_weaker c.add-3.result (five_added c.args.out.now.items (codes "a `)` may be missing: the text has ") (decimal c.args.groups.begun) (codes " `(` and ") (decimal c.args.groups.ended) (codes " `)`") _ _ _ _ c.add-3.new.out.items c.in_ok-add.ensures c.in_ok-add_number.ensures c.in_ok-add-2.ensures c.in_ok-add_number-2.ensures) c.add-3.ensures

use Rattle.std.specs.Prelude.{codes}
use Rattle.std.proofs.lemmas.Result.{on_ok_weaker}
use Rattle.wat_report.specs.HintWords.{without_dollar_words}
use Rattle.wat_report.proofs.Added.{three_added}
use Rattle.wat_report.proofs.hint_words.add_without_dollar.Goals as goal

pub returns : goal.returns
unfolding without_dollar_words
returns c = on_ok_weaker c.add-3.result (three_added c.args.out.now.items (codes "an identifier begins with `$`: `$") c.args.word.now (codes "`") _ _ c.add-3.new.out.items c.in_ok-add.ensures c.in_ok-add-2.ensures) c.add-3.ensures

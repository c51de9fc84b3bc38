use Rattle.std.specs.Prelude.{codes, decimal}
use Rattle.std.proofs.lemmas.Result.{on_ok_weaker}
use Rattle.wat_report.specs.HintWords.{wrong_escape_words}
use Rattle.wat_report.proofs.Added.{three_added}
use Rattle.wat_report.proofs.hint_words.add_column.Goals as goal

pub returns : goal.returns
unfolding wrong_escape_words
returns c = on_ok_weaker c.add-2.result (three_added c.args.out.now.items (codes "the escape in column ") (decimal c.args.column) (codes " is invalid: a backslash is written `\\\\`, and a byte as `\\` and two hexadecimal digits") _ _ c.add-2.new.out.items c.in_ok-add.ensures c.in_ok-add_number.ensures) c.add-2.ensures

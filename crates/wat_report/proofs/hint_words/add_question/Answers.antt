use Rattle.std.specs.Prelude.{codes, flat_map}
use Rattle.std.proofs.lemmas.Result.{on_ok_weaker}
use Rattle.wat_report.specs.HintWords.{next_quoted, question_words, in_backquotes}
use Rattle.wat_report.proofs.Added.{four_added}
use Rattle.wat_report.proofs.hint_words.add_question.Goals as goal

pub returns : goal.returns
unfolding question_words
returns g c =
    on_ok_weaker c.add-2.result (four_added c.args.out.now.items (codes "did you mean ") (in_backquotes c.args.mark.now g.T.Spelled.spelling c.args.first) (flat_map (next_quoted c.args.mark.now g.T.Spelled.spelling) c.args.further.now) (codes "?") _ _ _ c.add-2.new.out.items c.in_ok-add.ensures c.in_ok-add_quoted.ensures c.in_ok-add_further.ensures) c.add-2.ensures

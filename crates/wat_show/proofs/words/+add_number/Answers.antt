use Rattle.std.proofs.Common.{rules, arith}
use Rattle.std.proofs.lemmas.Fmt.{decimal_digit}
use Rattle.wat_show.proofs.Digits.{next_digit}
use Rattle.wat_show.proofs.words.+add_number.Goals as goal
use Rattle.wat_show.proofs.words.+add_number.Goals.{then-number-ge10+in_ok-add_number, else-number-ge10}

pub returns : goal.returns
returns t c = elim c.if-number-ge10.branch [ then-number-ge10+in_ok-add_number w ↦ next_digit _ _ _ c.args.number (omega arith) (omega arith) (rw w.out-is w.in_ok-add_number.ensures) c.in_ok-push.ensures.items | else-number-ge10 w ↦ search (rules, decimal_digit c.args.number (omega arith)) ]

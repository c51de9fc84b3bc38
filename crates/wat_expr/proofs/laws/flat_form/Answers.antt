use Rattle.wat_expr.proofs.FlatForm.{own_front, items_number, folded_number, already_flat}
use Rattle.wat_expr.proofs.OneReading.{one_form}
use Rattle.wat_expr.proofs.laws.flat_form.Goals as goal

pub returns-clause-one : goal.returns-clause-one
returns-clause-one c = one_form

pub returns-clause-own : goal.returns-clause-own
returns-clause-own c = own_front

pub returns-clause-as_many : goal.returns-clause-as_many
returns-clause-as_many c = λ xs ts r l test p. items_number test p xs ts r l

pub returns-clause-as_many_folded : goal.returns-clause-as_many_folded
returns-clause-as_many_folded c = λ i gs ts r l test p. folded_number test p i gs ts r l

pub returns-clause-already : goal.returns-clause-already
returns-clause-already c = already_flat

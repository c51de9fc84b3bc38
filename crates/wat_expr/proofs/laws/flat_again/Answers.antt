use Rattle.wat_expr.specs.ExpressionProduction.{expression}
use Rattle.wat_expr.proofs.FlatForm.{elsewhere, written, spells_again, folded_again, headed_again}
use Rattle.wat_expr.proofs.laws.flat_again.Goals as goal

pub returns-clause-anywhere : goal.returns-clause-anywhere
returns-clause-anywhere c = elsewhere c.stands_before_what_may_follow.ensures.stands c.stands_before_what_may_follow.ensures.follow

pub returns-clause-written : goal.returns-clause-written
returns-clause-written c = written c.stands_before_what_may_follow.ensures.stands c.stands_before_what_may_follow.ensures.follow

pub returns-clause-spelled : goal.returns-clause-spelled
unfolding expression
returns-clause-spelled c = spells_again c.stands_before_what_may_follow.ensures.stands c.stands_before_what_may_follow.ensures.follow

pub returns-clause-folded : goal.returns-clause-folded
returns-clause-folded c = folded_again c.stands_before_what_may_follow.ensures.stands c.stands_before_what_may_follow.ensures.follow

pub returns-clause-headed : goal.returns-clause-headed
returns-clause-headed c = headed_again c.stands_before_what_may_follow.ensures.stands c.stands_before_what_may_follow.ensures.follow

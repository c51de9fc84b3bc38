use Rattle.wat_plain.proofs.FoldedGroups.{group_of, folded_of}
use Rattle.wat_plain.proofs.folded.read_folded.Goals as goal

pub returns-clause-group : goal.returns-clause-group
returns-clause-group c =
    group_of c.args.parser.now.left c.take_open.new.parser.left
    c.read_opened.new.parser.left
    c.if-not-take_open.ensures.stands c.if-not-take_open.ensures.left c.read_opened.result
    c.read_opened.ensures

pub returns-clause-folded : goal.returns-clause-folded
returns-clause-folded c =
    folded_of c.args.parser.now.left c.take_open.new.parser.left
    c.read_opened.new.parser.left
    c.if-not-take_open.ensures.stands c.if-not-take_open.ensures.left c.read_opened.result
    c.read_opened.ensures

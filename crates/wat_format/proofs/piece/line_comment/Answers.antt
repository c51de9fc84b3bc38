use Rattle.std.proofs.Common.{inr}
use Rattle.wat_format.proofs.Found.{line_found}
use Rattle.wat_format.proofs.piece.line_comment.Goals as goal

pub returns-clause-stands : goal.returns-clause-stands
returns-clause-stands c = (line_found c.args.text.now c.args.at c.line_end.result c.requires.inside c.requires.first c.requires.second c.line_end.ensures.within.0 c.line_end.ensures.within.1 c.line_end.ensures.value).0

pub returns-clause-follows : goal.returns-clause-follows
returns-clause-follows c = (line_found c.args.text.now c.args.at c.line_end.result c.requires.inside c.requires.first c.requires.second c.line_end.ensures.within.0 c.line_end.ensures.within.1 c.line_end.ensures.value).1

pub returns-clause-edge : goal.returns-clause-edge
returns-clause-edge c = inr (line_found c.args.text.now c.args.at c.line_end.result c.requires.inside c.requires.first c.requires.second c.line_end.ensures.within.0 c.line_end.ensures.within.1 c.line_end.ensures.value).2

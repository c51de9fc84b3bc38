use Rattle.std.proofs.Common.{arith, inl, sym}
use Rattle.wat_format.proofs.Found.{block_found, block_open}
use Rattle.wat_format.proofs.piece.block_comment.Goals as goal

pub returns-in-Some-clause-stands : goal.returns-in-Some-clause-stands
returns-in-Some-clause-stands c = (block_found c.args.text.now c.args.at c.in-Some.end c.requires.inside c.requires.first c.requires.second c.in-Some.ensures.within.0 c.in-Some.ensures.within.1 c.in-Some.ensures.value).0

pub returns-in-Some-clause-edge : goal.returns-in-Some-clause-edge
returns-in-Some-clause-edge c = inl (let e = (block_found c.args.text.now c.args.at c.in-Some.end c.requires.inside c.requires.first c.requires.second c.in-Some.ensures.within.0 c.in-Some.ensures.within.1 c.in-Some.ensures.value).1 in omega (arith, e))

pub returns-in-None-clause-wrong : goal.returns-in-None-clause-wrong
returns-in-None-clause-wrong c = rw (c.fault_at.ensures.fault, c.fault_at.ensures.place) (omega (arith, c.requires.inside), block_open c.args.text.now c.args.at c.requires.inside c.requires.first c.requires.second (sym c.in-None.ensures.value))

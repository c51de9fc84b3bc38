use Rattle.std.proofs.Common.{arith}
use Rattle.wat_format.proofs.Found.{word_found, word_none, word_wrong}
use Rattle.wat_format.proofs.piece.word.Goals as goal

pub returns-then-end-at-clause-wrong : goal.returns-then-end-at-clause-wrong
returns-then-end-at-clause-wrong c = rw (c.fault_at.ensures.fault, c.fault_at.ensures.place) (omega (arith, c.requires.inside), word_none c.args.text.now c.args.at c.in-Ok.end c.if-end-at.true c.requires.inside c.requires.no_space c.requires.no_open c.requires.no_close c.requires.no_mark c.in-Ok.ensures.value)

pub returns-else-end-at-clause-stands : goal.returns-else-end-at-clause-stands
returns-else-end-at-clause-stands c = (word_found c.args.text.now c.args.at c.in-Ok.end (omega (arith, c.in-Ok.ensures.within, c.if-end-at.false)) c.in-Ok.ensures.within.1 c.in-Ok.ensures.value).0

pub returns-else-end-at-clause-follows : goal.returns-else-end-at-clause-follows
returns-else-end-at-clause-follows c = (word_found c.args.text.now c.args.at c.in-Ok.end (omega (arith, c.in-Ok.ensures.within, c.if-end-at.false)) c.in-Ok.ensures.within.1 c.in-Ok.ensures.value).1

pub returns-in-Err-clause-wrong : goal.returns-in-Err-clause-wrong
returns-in-Err-clause-wrong c = rw (c.fault_at-in-Err.ensures.fault, c.fault_at-in-Err.ensures.place) (c.in-Err.ensures.value.1, word_wrong c.args.text.now c.args.at c.in-Err.quote c.in-Err.ensures.value.0)

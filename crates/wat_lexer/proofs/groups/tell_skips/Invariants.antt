use Rattle.wat_lexer.proofs.Closing.{SkipsSoFar}
use Rattle.wat_lexer.proofs.groups.tell_skips.Given as goal

abbrev pub invariant-loop-i : goal.invariant-loop-i
invariant-loop-i l = SkipsSoFar l.fn.tokens l.i l.tokens l.ends.items l.first

abbrev pub decreases-loop-i : goal.decreases-loop-i
decreases-loop-i l = l.i

use Rattle.std.specs.Prelude.{◌≡◌, ◌≤◌, ℕ}
use Rattle.wat_mnemonics.specs.Prelude.{IsWithin, IsFew, Carries}
use Rattle.wat_mnemonics.proofs.same_key.find_between.Given as goal

abbrev pub invariant-halves : goal.invariant-halves
invariant-halves l = record {
  left : 1 ≤ l.size;
  within : IsWithin l.base l.size l.text;
  only : l.parser ≡ record l.fn.parser { probes = l.parser.probes };
  counts : Carries l.fn.parser l.parser;
  made : l.fn.parser.probes ≤ l.parser.probes;
  few : (most : ℕ) → IsFew l.fn.size l.fn.parser.probes most → IsFew l.size l.parser.probes most;
}

abbrev pub decreases-halves : goal.decreases-halves
decreases-halves l = l.size

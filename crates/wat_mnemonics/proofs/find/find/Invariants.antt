use Rattle.std.specs.Prelude.{◌+◌, ◌*◌, ◌≡◌, ◌≤◌}
use Rattle.wat_mnemonics.specs.Prelude.{IsWithin, IsFew, Carries, op_count}
use Rattle.wat_mnemonics.proofs.find.find.Given as goal

abbrev pub invariant-halves : goal.invariant-halves
invariant-halves l = record {
  left : 1 ≤ l.size;
  within : IsWithin l.base l.size l.text;
  only : l.parser ≡ record l.fn.parser { probes = l.parser.probes };
  counts : Carries l.fn.parser l.parser;
  some : op_count + 1 + (op_count + 1) * l.fn.parser.probes ≤ l.size + (op_count + 1) * l.parser.probes;
  few : IsFew l.size l.parser.probes (l.fn.parser.probes + 10);
}

abbrev pub decreases-halves : goal.decreases-halves
decreases-halves l = l.size

use Rattle.std.specs.Prelude.{◌≡◌, length, map, ◌≤◌, ◌+◌}
use Rattle.wat_tokens.specs.Prelude.{Costs, Carries, SameSettings, after_front, Extends, many_reads}
use Rattle.wat_tokens.proofs.repeat.parts.Given as goal

abbrev pub invariant-parts : goal.invariant-parts
invariant-parts g l = record {
  exact : after_front (map g.P.Part.view.of l.out.items) (many_reads g.P.Part.follows g.P.Part.grammar l.parser.left) ≡ after_front (map g.P.Part.view.of l.fn.out.items) (many_reads g.P.Part.follows g.P.Part.grammar l.fn.parser.left);
  counts : Carries l.fn.parser l.parser;
  turned : l.parser.turns + l.fn.parser.taken ≤ l.fn.parser.turns + l.parser.taken;
  cost : Costs g.P.Part.cost l.fn.parser l.parser;
  settings : SameSettings l.fn.parser l.parser;
  kept : Extends l.fn.out.items l.out.items;
}

abbrev pub decreases-parts : goal.decreases-parts
decreases-parts g l = length l.parser.left

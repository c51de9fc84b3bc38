use Rattle.std.specs.Prelude.{◌≡◌, length, map, ◌≤◌, ◌+◌}
use Rattle.wat_tokens.specs.Prelude.{Costs, Carries, SameSettings, joined_behind, Extends, many_reads}
use Rattle.wat_tokens.proofs.repeat.groups.Given as goal

abbrev pub invariant-groups : goal.invariant-groups
invariant-groups g l = record {
  exact : joined_behind (map g.G.Group.view.of l.out.items) (many_reads g.G.Group.follows g.G.Group.grammar l.parser.left) ≡ joined_behind (map g.G.Group.view.of l.fn.out.items) (many_reads g.G.Group.follows g.G.Group.grammar l.fn.parser.left);
  counts : Carries l.fn.parser l.parser;
  turned : l.parser.turns + l.fn.parser.taken ≤ l.fn.parser.turns + l.parser.taken;
  cost : Costs g.G.Group.cost l.fn.parser l.parser;
  settings : SameSettings l.fn.parser l.parser;
  kept : Extends l.fn.out.items l.out.items;
}

abbrev pub decreases-groups : goal.decreases-groups
decreases-groups g l = length l.parser.left

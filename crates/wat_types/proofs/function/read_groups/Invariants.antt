use Rattle.std.specs.Prelude.{◌≡◌, length, ◌≤◌, ◌+◌}
use Rattle.wat_types.specs.Prelude.{add_rest, Carries, Quiet, SameSettings, add, function_view, function_groups, func_groups}
use Rattle.wat_types.proofs.function.read_groups.Given as goal

abbrev pub invariant-groups : goal.invariant-groups
invariant-groups l = record {
  exact : add_rest add (function_view l.found) ((func_groups l.fn.labels).reads l.parser.left) ≡ (function_groups l.fn.labels).reads l.fn.parser.left;
  counts : Carries l.fn.parser l.parser;
  turned : l.parser.turns + l.fn.parser.taken ≤ l.fn.parser.turns + l.parser.taken;
  cost : Quiet l.fn.parser l.parser;
  settings : SameSettings l.fn.parser l.parser;
}

abbrev pub decreases-groups : goal.decreases-groups
decreases-groups l = length l.parser.left

use Rattle.std.specs.Prelude.{◌≡◌, length, ◌≤◌, ◌+◌}
use Rattle.wat_tokens.specs.Counts.{Carries, SameSettings, Quiet}
use Rattle.wat_links.specs.Flags.{symbol_flags}
use Rattle.wat_links.proofs.FlagList.{flags_from}
use Rattle.wat_links.proofs.flags.read_flags.Given as goal

abbrev pub invariant-flags : goal.invariant-flags
invariant-flags l = record {
  exact : flags_from l.flags l.parser.left ≡ symbol_flags.reads l.fn.parser.left;
  counts : Carries l.fn.parser l.parser;
  turned : l.parser.turns + l.fn.parser.taken ≤ l.fn.parser.turns + l.parser.taken;
  cost : Quiet l.fn.parser l.parser;
  settings : SameSettings l.fn.parser l.parser;
}

abbrev pub decreases-flags : goal.decreases-flags
decreases-flags l = length l.parser.left

use Rattle.std.specs.Prelude.{◌≤◌, length}
use Rattle.wat_scripts.specs.Steps.{usize_max, IsReady, PassesPart, front}
use Rattle.wat_scripts.proofs.modules.take_parts.Given as goal

abbrev pub invariant-parts : goal.invariant-parts
invariant-parts l = record {
  ready : IsReady usize_max l.parser;
  passed : PassesPart (front l.fn.parser) (front l.parser) l.fn.modules.items l.modules.items;
  fewer : length l.parser.rest ≤ length l.fn.parser.rest;
}

abbrev pub decreases-parts : goal.decreases-parts
decreases-parts l = length l.parser.rest

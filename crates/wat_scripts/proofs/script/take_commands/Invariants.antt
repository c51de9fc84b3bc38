use Rattle.std.specs.Prelude.{[], length}
use Rattle.wat_scripts.specs.Steps.{usize_max, IsReady, PassesCommand, front}
use Rattle.wat_scripts.proofs.script.take_commands.Given as goal

abbrev pub invariant-commands : goal.invariant-commands
invariant-commands l = record {
  ready : IsReady usize_max l.parser;
  passed : PassesCommand (front l.fn.parser) (front l.parser) [] l.modules.items;
}

abbrev pub decreases-commands : goal.decreases-commands
decreases-commands l = length l.parser.rest

use Rattle.std.specs.Prelude.{codes}
use Rattle.wat.proofs.Names.{not_named}
use Rattle.wat.proofs.command.name_after.Goals as goal

pub returns-in-None : goal.returns-in-None
returns-in-None c = not_named (codes "--stdin-filepath=") c.args.word.now c.args.name.now c.in-None.ensures.cases

use Rattle.std.specs.Prelude.{◌≡◌}
use Rattle.wat_answers.specs.Prelude.{Memory, module_view, SpellsModule}
use Rattle.wat_answers.proofs.Answering.{none_spells}
use Rattle.wat_answers.proofs.reading.module_of_tokens.Goals as goal

pub returns-clause-none : goal.returns-clause-none
returns-clause-none c = none_spells (SpellsModule c.args.text.now) (λ m read. module_view read ≡ m) (λ e. e.fault ≡ Memory) c.read_module_of.result c.read_module_of.ensures.only

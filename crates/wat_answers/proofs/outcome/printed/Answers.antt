use Rattle.std.proofs.Common.{ap, ℕ, Vec, Global}
use Rattle.wat_answers.specs.Prelude.{string_bytes, module_view}
use Rattle.wat_answers.proofs.Answering.{answers_print, some_spells}
use Rattle.wat_answers.proofs.outcome.printed.Goals as goal

pub returns-in_ok-push_str-in-Ok : goal.returns-in_ok-push_str-in-Ok
returns-in_ok-push_str-in-Ok c = answers_print c.args.layout (module_view c.args.module.now) (string_bytes c.in-Ok.text) _ c.into_bytes.result.items c.in-Ok.ensures.reads_back c.in-Ok.ensures.line c.in_ok-push_str-in-Ok.ensures.bytes (ap (λ (v : Vec ℕ Global). v.items) c.into_bytes.ensures.value)

pub unreachable-requires : goal.unreachable-requires
unreachable-requires c =
    some_spells (module_view c.args.module.now) c.requires (c.in-Err.ensures.refused c.in_default.not-Memory)

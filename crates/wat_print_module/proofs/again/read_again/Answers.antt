use Rattle.wat_core.specs.Module.{module_view}
use Rattle.wat_print_module.proofs.again.read_again.Goals as goal

pub returns-in-Ok-clause-same : goal.returns-in-Ok-clause-same
returns-in-Ok-clause-same c =
    c.in-Ok.ensures.only (module_view c.args.module.now)
    (rw (c.in_ok-kept.ensures, c.as_str.ensures.value) c.in_ok-text.ensures.reads_back)

pub unreachable-requires : goal.unreachable-requires
unreachable-requires c =
    c.in_default.not-Memory (c.in-Err.ensures.only (module_view c.args.module.now)
    (rw (c.in_ok-kept.ensures, c.as_str.ensures.value) c.in_ok-text.ensures.reads_back))

use Rattle.std.specs.Prelude.{drop}
use Rattle.wat_print_module.specs.Prelude.{locals_view, Left, listed_local_form}
use Rattle.wat_print_module.proofs.local.write_all_listed.Given as goal

abbrev pub invariant-loop-local : goal.invariant-loop-local
invariant-loop-local l =
    Left listed_local_form (locals_view (drop l.local-index l.locals)) (locals_view l.locals)
    l.fn.out l.out

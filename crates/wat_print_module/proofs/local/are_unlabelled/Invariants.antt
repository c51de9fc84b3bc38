use Rattle.std.specs.Prelude.{◌≡◌, drop}
use Rattle.wat_print_module.specs.Prelude.{locals_view, local_label}
use Rattle.wat_print.specs.Label.{none_labelled}
use Rattle.wat_print_module.proofs.local.are_unlabelled.Given as goal

-- the remaining locals decide the result
abbrev pub invariant-loop-local : goal.invariant-loop-local
invariant-loop-local l =
    none_labelled local_label (locals_view (drop l.local-index l.locals))
    ≡ none_labelled local_label (locals_view l.locals)

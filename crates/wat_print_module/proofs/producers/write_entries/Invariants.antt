use Rattle.std.specs.Prelude.{drop}
use Rattle.wat_print_module.specs.Prelude.{names_view, Left, produced_form}
use Rattle.wat_print_module.proofs.producers.write_entries.Given as goal

abbrev pub invariant-loop-entry : goal.invariant-loop-entry
invariant-loop-entry l =
    Left (produced_form l.word) (names_view (drop l.entry-index l.entries))
    (names_view l.entries) l.fn.out l.out

use Rattle.std.specs.Prelude.{drop, flat_map, map}
use Rattle.wat_print_module.specs.Prelude.{subsection_view, entries_in, Left, entry_form}
use Rattle.wat_print_module.proofs.dylink.write_subsections.Given as goal

abbrev pub invariant-loop-subsection : goal.invariant-loop-subsection
invariant-loop-subsection l =
    Left entry_form
    (flat_map entries_in (map subsection_view (drop l.subsection-index l.subsections)))
    (flat_map entries_in (map subsection_view l.subsections)) l.fn.out l.out

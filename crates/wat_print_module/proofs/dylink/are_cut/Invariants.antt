use Rattle.std.specs.Prelude.{◌≡◌, drop, map}
use Rattle.wat_print_module.specs.Prelude.{subsection_view, are_cut}
use Rattle.wat_print_module.proofs.dylink.are_cut.Given as goal

-- the remaining subsections decide the result
abbrev pub invariant-loop-i : goal.invariant-loop-i
invariant-loop-i l =
    are_cut (map subsection_view (drop l.i l.subsections))
    ≡ are_cut (map subsection_view l.subsections)

use Rattle.std.specs.Prelude.{drop, map}
use Rattle.wat_print.specs.Prelude.{member_view, Left}
use Rattle.wat_print.specs.Struct.{member_alone_form}
use Rattle.wat_print.proofs.structure.write_each_alone.Given as goal

abbrev pub invariant-loop-field : goal.invariant-loop-field
invariant-loop-field l =
    Left member_alone_form (map member_view (drop l.field-index l.fields))
    (map member_view l.fields) l.fn.out l.out

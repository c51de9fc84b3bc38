use Rattle.std.specs.Prelude.{◌≡◌, drop}
use Rattle.wat_print.specs.Prelude.{none_labelled, member_label}
use Rattle.wat_types.specs.Struct.{members_view}
use Rattle.wat_print.proofs.structure.are_unlabelled.Given as goal

-- the fields left decide the result
abbrev pub invariant-loop-field : goal.invariant-loop-field
invariant-loop-field l =
    none_labelled member_label (members_view (drop l.field-index l.fields))
    ≡ none_labelled member_label (members_view l.fields)

use Rattle.std.specs.Prelude.{◌≡◌, ◌++◌, take}
use Rattle.wat_core.specs.Prelude.{fields_view}
use Rattle.wat_scopes.specs.FaultModels.{marks_view}
use Rattle.wat_names.specs.Marks.{marks}
use Rattle.wat_names.proofs.marks.add_marks.Given as goal

abbrev pub invariant-loop-field : goal.invariant-loop-field
invariant-loop-field l = marks_view l.out.items ≡ marks_view l.fn.out.items ++ marks (fields_view (take l.field-index l.fields))

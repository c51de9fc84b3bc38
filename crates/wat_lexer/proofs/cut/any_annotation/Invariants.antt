use Rattle.std.specs.Prelude.{◌≡◌, drop}
use Rattle.wat_lexer.specs.Prelude.{has_annotation, lying}
use Rattle.wat_lexer.proofs.cut.any_annotation.Given as goal

abbrev pub invariant-loop-one : goal.invariant-loop-one
invariant-loop-one l = has_annotation (lying l.side_table) ≡ has_annotation (lying (drop l.one-index l.side_table))

use Rattle.std.proofs.Common.{arith, subst, ◌≡◌, ◌+◌, ◌-◌}
use Rattle.wat_lexer.specs.Laws.Prelude.{IsCharBoundary, IsCharBoundary-after_ascii}
use Rattle.wat_lexer.proofs.class.part.Goals as goal

pub range-requires-clause-end_boundary : goal.range-requires-clause-end_boundary
range-requires-clause-end_boundary c =
    let back : c.args.end - 1 + 1 ≡ c.args.end = omega (arith, c.requires.order) in
    subst (IsCharBoundary c.args.text.now) back (IsCharBoundary-after_ascii c.args.text.now (c.args.end - 1) c.utf8.text (omega (arith, c.requires.order, c.requires.within)) c.requires.last)

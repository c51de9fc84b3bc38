use Rattle.std.proofs.Common.{sym, ◌∙◌}
use Rattle.wat_expr.proofs.ReadTurns.{text_ends}
use Rattle.wat_expr.proofs.reader.Reader.turn.Goals as goal

pub returns-then-is_empty-clause-turned : goal.returns-then-is_empty-clause-turned
returns-then-is_empty-clause-turned c =
    let e = sym c.is_empty.ensures ∙ c.if-is_empty.true in
    λ n. text_ends _ _ _ _ e c.if-take_close.ensures.exact.1 (λ none. c.requires none e)

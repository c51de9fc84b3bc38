use Rattle.std.proofs.Common.{arith, sym, ◌∙◌}
use Rattle.wat_format.proofs.Found.{mark_alone}
use Rattle.wat_format.proofs.piece.piece_at.Goals as goal

pub returns-then-b-eq59-clause-wrong : goal.returns-then-b-eq59-clause-wrong
returns-then-b-eq59-clause-wrong c = rw (c.fault_at.ensures.fault, c.fault_at.ensures.place) (omega (arith, c.requires.inside), mark_alone c.args.text.now c.args.at c.requires.inside c.if-b-eq59.true (sym c.is_mark-marked.ensures ∙ c.if-marked-2.false))

use Rattle.std.specs.Prelude.{drop, map}
use Rattle.wat_print_instr.specs.Prelude.{Left, string_form}
use Rattle.wat_print_module.proofs.raw.write_pieces.Given as goal

abbrev pub invariant-loop-piece : goal.invariant-loop-piece
invariant-loop-piece l =
    Left string_form (map (λ s. s.now) (drop l.piece-index l.pieces))
    (map (λ s. s.now) l.pieces) l.fn.out l.out

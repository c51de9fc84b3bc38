-- Each piece has fewer than 2 ^ 64 bytes.
use Rattle.std.specs.Prelude.{◌≡◌, ◌≤◌, ◌*◌, take, map}
use Rattle.wat_show.specs.Fields.{byte_count}
use Rattle.wat_show.proofs.fields.total.Given as goal

abbrev pub invariant-loop-piece : goal.invariant-loop-piece
invariant-loop-piece g l = (l.count ≡ byte_count (map g.P.Piece.bytes (take l.piece-index l.pieces))) × (l.count ≤ 18446744073709551615 * l.piece-index)

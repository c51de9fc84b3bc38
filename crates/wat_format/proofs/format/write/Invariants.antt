use Rattle.std.specs.Prelude.{string_bytes, vec_len, ◌-◌, ◌≤◌, length, drop}
use Rattle.wat_format.specs.Prelude.{IsCharBoundary, is_opening, Follows}
use Rattle.wat_format.proofs.SoFar.{SoFar}
use Rattle.wat_format.proofs.format.write.Given as goal

abbrev pub invariant-pieces : goal.invariant-pieces
invariant-pieces l = record {
  so : SoFar l.text (is_opening l.last) (drop l.end l.text) (string_bytes l.out) l.last (vec_len l.layout.around);
  within : l.end ≤ length l.text;
  edge : IsCharBoundary l.text l.end;
  follows : Follows l.last (drop l.end l.text);
}

abbrev pub decreases-pieces : goal.decreases-pieces
decreases-pieces l = length l.text - l.end

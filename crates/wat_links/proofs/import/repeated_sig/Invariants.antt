use Rattle.std.specs.Prelude.{◌≡◌, map, replicate}
use Rattle.wat_links.proofs.import.repeated_sig.Given as goal

abbrev pub invariant-copies : goal.invariant-copies
invariant-copies g l = map (λ r. r.now) l.sigs.items ≡ replicate l.counter l.sig

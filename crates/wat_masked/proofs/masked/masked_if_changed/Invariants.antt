use Rattle.std.specs.Prelude.{string_bytes, ◌≡◌, ◌-◌, ◌≤◌, length, drop, false}
use Rattle.wat_masked.specs.Prelude.{begins_hidden_group, visible_tokens, entry_tokens}
use Rattle.wat_masked.proofs.Unchanged.{ChangedSoFar}
use Rattle.wat_masked.proofs.Writing.{SoFar}
use Rattle.wat_masked.proofs.masked.masked_if_changed.Given as goal

abbrev pub invariant-loop-i : goal.invariant-loop-i
invariant-loop-i l = record {
  so : SoFar l.text l.tokens (drop l.i l.tokens) l.opened l.row l.done (string_bytes l.out);
  changed : ChangedSoFar (visible_tokens false (entry_tokens l.tokens)) (visible_tokens false (entry_tokens (drop l.i l.tokens))) l.opened l.row l.done (string_bytes l.out);
  within : l.i ≤ length l.tokens;
  visible : begins_hidden_group false (entry_tokens (drop l.i l.tokens)) ≡ false;
}

abbrev pub decreases-loop-i : goal.decreases-loop-i
decreases-loop-i l = length l.tokens - l.i

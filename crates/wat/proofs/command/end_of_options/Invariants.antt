use Rattle.std.specs.Prelude.{◌≡◌, ◌+◌, drop, map}
use Rattle.wat.specs.Prelude.{position_or_len, string_bytes, is_end}
use Rattle.wat.proofs.command.end_of_options.Given as goal

-- no word so far ends the options
abbrev pub invariant-loop-at : goal.invariant-loop-at
invariant-loop-at l = position_or_len is_end (map string_bytes l.words) ≡ l.at + position_or_len is_end (map string_bytes (drop l.at l.words))

use Rattle.std.specs.Prelude.{◌≡◌, ◌+◌, drop, map}
use Rattle.wat.specs.Prelude.{position_or_len, string_bytes}
use Rattle.wat.specs.Commands.{is_unknown}
use Rattle.wat.proofs.command.unknown_option.Given as goal

-- no word so far is an unknown option
abbrev pub invariant-loop-at : goal.invariant-loop-at
invariant-loop-at l = position_or_len (is_unknown l.name) (map string_bytes l.words) ≡ l.at + position_or_len (is_unknown l.name) (map string_bytes (drop l.at l.words))

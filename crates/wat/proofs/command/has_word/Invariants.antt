use Rattle.std.specs.Prelude.{◌≡◌, drop, map}
use Rattle.std.specs.String.{string_bytes}
use Rattle.wat.specs.Commands.{has_word}
use Rattle.wat.proofs.command.has_word.Given as goal

-- the words that are left decide
abbrev pub invariant-loop-word : goal.invariant-loop-word
invariant-loop-word l = has_word l.wanted (map string_bytes l.words) ≡ has_word l.wanted (map string_bytes (drop l.word-index l.words))

use Rattle.std.specs.Prelude.{◌≡◌, ◌++◌, length, map}
use Rattle.wat.specs.Prelude.{string_bytes}
use Rattle.wat.specs.Commands.{joined}
use Rattle.wat.proofs.command.joined.Given as goal

-- the words that are left are joined after those so far
abbrev pub invariant-loop-word : goal.invariant-loop-word
invariant-loop-word l = map string_bytes l.all.items ++ joined (map string_bytes l.left) ≡ joined (map string_bytes l.words)

abbrev pub decreases-loop-word : goal.decreases-loop-word
decreases-loop-word l = length l.left

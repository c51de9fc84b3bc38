use Rattle.std.specs.Prelude.{◌≡◌, ◌+◌, length}
use Rattle.wat_tokens.specs.Lookup.{in_front}
use Rattle.wat_plain.proofs.taking.tokens_left.Given as goal

abbrev pub invariant-tokens : goal.invariant-tokens
invariant-tokens l = l.count + length (in_front l.cursor) ≡ length l.parser.left

abbrev pub decreases-tokens : goal.decreases-tokens
decreases-tokens l = length (in_front l.cursor)

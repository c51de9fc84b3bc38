use Rattle.std.specs.Prelude.{◌≡◌, drop, map}
use Rattle.wat.specs.Prelude.{string_bytes}
use Rattle.wat.specs.Commands.{color_of}
use Rattle.wat.specs.declared.command.Color.TheVariants.{Auto}
use Rattle.wat.proofs.command.color_of.Given as goal

-- the words that are left decide after the color so far
abbrev pub invariant-loop-word : goal.invariant-loop-word
invariant-loop-word l = color_of Auto (map string_bytes l.options) ≡ color_of l.color (map string_bytes (drop l.word-index l.options))

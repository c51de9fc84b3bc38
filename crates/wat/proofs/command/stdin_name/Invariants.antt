use denote.Shadow.{shadow}
use denote.Text.{Utf8}
use Rattle.std.specs.Prelude.{◌≡◌, codes, drop, map}
use Rattle.wat.specs.Prelude.{string_bytes}
use Rattle.wat.specs.Commands.{stdin_name}
use Rattle.wat.proofs.command.stdin_name.Given as goal

-- the words that are left decide after the name so far, which is text
abbrev pub invariant-loop-word : goal.invariant-loop-word
invariant-loop-word l = (stdin_name (codes "<stdin>") (map string_bytes l.options) ≡ stdin_name l.name (map string_bytes (drop l.word-index l.options))) × shadow (Utf8 l.name)

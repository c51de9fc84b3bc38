use Rattle.std.specs.Prelude.{◌≡◌}
use Rattle.wat_print.specs.Laws.Characters.{with_characters}
use Rattle.wat_print.proofs.output.Output.push_characters.Given as goal

-- the page is the start page with the characters written so far
abbrev pub invariant-loop-c : goal.invariant-loop-c
invariant-loop-c l = l.self ≡ with_characters l.fn.self l.yielded

-- Any number of parts, and the invariant of a loop that reads them.
use Rattle.std.specs.Prelude.{◌≡◌, ◌≤◌, true, false, List, ◌++◌, Some}
use Rattle.wat_tokens.specs.Production.{Read, bind, Production}
use Rattle.wat_tokens.specs.ManySpells.{many_spells, many_reads}
use Rattle.wat_tokens.specs.Test.{Test, run}
use Rattle.wat_tokens.specs.Asks.{ask, also, behind}
use Rattle.wat_tokens.specs.Laws.Many.{many_sound, many_complete, many_takes, many_balanced}
use Rattle.wat_tokens.specs.Laws.Moves.{many_moves}

-- ---- any number of parts: one more whenever the next tokens begin a part

abbrev pub many : {A : Type 0} → Test → (g : Production A) → 1 ≤ g.least → Production (List A)
many test g consumes = record {
  spells = many_spells (λ r. run test r) g;
  reads = many_reads (λ r. run test r) g;
  least = 0;
  sound = many_sound (λ r. run test r) g;
  complete = many_complete (λ r. run test r) g consumes;
  takes = many_takes (λ r. run test r) g;
  balanced = many_balanced (λ r. run test r) g;
  asks = also (behind g.least (ask true test)) (also (behind 0 g.asks) (ask false test));
  moves = many_moves test g;
}

-- ---- the loop's invariant: the values so far, and the values still to be read

abbrev pub after_front : {A : Type 0} → List A → Read (List A) → Read (List A)
after_front before read = bind read (λ vs r. Some (before ++ vs, r))

-- ---- a list after a call that appends values to it, also on an error

-- the old list is a prefix of the new list
abbrev pub Extends : {X : Type 0} → List X → List X → Type 0
Extends {X} before after = (more : List X) × (after ≡ before ++ more)

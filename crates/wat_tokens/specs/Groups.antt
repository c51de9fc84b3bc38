-- Groups in parentheses, and where they end.
use Rattle.std.specs.Prelude.{ℕ, ◌+◌, true, List, refl}
use Rattle.wat_tokens.specs.Tests.{annotation_only}
use Rattle.wat_tokens.specs.Test.{at_ends}
use Rattle.wat_tokens.specs.Asks.{nothing, ask, also, behind}
use Rattle.wat_tokens.specs.Production.{Production}
use Rattle.wat_tokens.specs.Parts.{one, seq, made, word}
use Rattle.wat_tokens.specs.GroupSpells.{paren_spells, paren_reads, end_spells, end_reads, turn_spells, turn_reads}
use Rattle.wat_tokens.specs.Laws.Groups.{paren_sound, paren_complete, paren_takes, paren_balanced, end_sound, end_complete, end_takes, end_balanced, turn_sound, turn_complete, turn_takes, turn_balanced}
use Rattle.wat_tokens.specs.Laws.Moves.{paren_moves, end_moves}

-- ---- ( .. )

-- ( g )
abbrev pub paren : {A : Type 0} → Production A → Production A
paren g = record {
  spells = paren_spells g;
  reads = paren_reads g;
  least = g.least + 2;
  sound = paren_sound g;
  complete = paren_complete g;
  takes = paren_takes g;
  balanced = paren_balanced g;
  asks = behind 1 g.asks;
  moves = paren_moves g;
}

-- ( word g )
abbrev pub group : {A : Type 0} → List ℕ → Production A → Production A
group w g = paren (made (λ v. v.1) (seq (word w) g))

-- ( @name g )
abbrev pub annotation_group : {A : Type 0} → List ℕ → Production A → Production A
annotation_group name g = paren (made (λ v. v.1) (seq (one (annotation_only name) (refl, refl)) g))

-- ---- a part that reaches to the end of its group

-- g, where the end of the tokens or a `)` follows
abbrev pub at_end : {A : Type 0} → Production A → Production A
at_end g = record {
  spells = end_spells g;
  reads = end_reads g;
  least = g.least;
  sound = end_sound g;
  complete = end_complete g;
  takes = end_takes g;
  balanced = end_balanced g;
  asks = also g.asks (ask true at_ends);
  moves = end_moves g;
}

-- ---- ) (

-- `) (`, where one group closes and the next opens
abbrev pub turn : Production (Unit {0})
turn = record {
  spells = turn_spells;
  reads = turn_reads;
  least = 2;
  sound = turn_sound;
  complete = turn_complete;
  takes = turn_takes;
  balanced = turn_balanced;
  asks = nothing;
  moves = λ v c r s a p. p;
}

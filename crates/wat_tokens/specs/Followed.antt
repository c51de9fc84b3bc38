-- A part whose value decides the next part, and the empty part.
use Rattle.wat_tokens.specs.Prelude.{nothing, everything, Production}
use Rattle.wat_tokens.specs.FollowedSpells.{followed_spells, followed_reads, blank_spells, blank_reads}
use Rattle.wat_tokens.specs.Laws.Followed.{followed_sound, followed_complete, followed_takes, followed_balanced, blank_sound, blank_complete, blank_takes, blank_balanced}
use Rattle.wat_tokens.specs.Laws.Moves.{followed_moves}

-- ---- a part, and then a part that depends on its value

-- g, and then h v, where v is the value of g
abbrev pub followed : {A B : Type 0} → Production A → (A → Production B) → Production B
followed g h = record {
  spells = followed_spells g h;
  reads = followed_reads g h;
  least = g.least;
  sound = followed_sound g h;
  complete = followed_complete g h;
  takes = followed_takes g h;
  balanced = followed_balanced g h;
  asks = everything;
  moves = followed_moves g h;
}

-- ---- no tokens

-- no tokens, with the value a
abbrev pub blank : {A : Type 0} → A → Production A
blank a = record {
  spells = blank_spells a;
  reads = blank_reads a;
  least = 0;
  sound = blank_sound a;
  complete = blank_complete a;
  takes = blank_takes a;
  balanced = blank_balanced a;
  asks = nothing;
  moves = λ v c r s a p. p;
}

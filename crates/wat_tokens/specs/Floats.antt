-- Floating-point literals, which are not read.
use Rattle.wat_tokens.specs.Asks.{nothing}
use Rattle.wat_tokens.specs.Production.{Production}
use Rattle.wat_tokens.specs.NoneSpells.{none_spells, none_reads}
use Rattle.wat_tokens.specs.Laws.Floats.{none_sound, none_complete, none_takes, none_balanced}

-- no tokens spell a value
abbrev pub none : {A : Type 0} → Production A
none = record {
  spells = none_spells;
  reads = none_reads;
  least = 1;
  sound = none_sound;
  complete = none_complete;
  takes = none_takes;
  balanced = none_balanced;
  asks = nothing;
  moves = λ v c r s a p. absurd p;
}

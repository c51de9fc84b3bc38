-- The word of an instruction.
use Rattle.wat_tokens.specs.Prelude.{nothing, Production}
use Rattle.wat_mnemonics.specs.declared.op.Op.{Op}
use Rattle.wat_mnemonics.specs.Word.{mnemonic_spells, mnemonic_reads}
use Rattle.wat_mnemonics.specs.Laws.Word.{mnemonic_sound, mnemonic_complete, mnemonic_takes, mnemonic_balanced}

-- ---- the production

-- the word of an instruction
abbrev pub mnemonic : Production Op
mnemonic = record {
  spells = mnemonic_spells;
  reads = mnemonic_reads;
  least = 1;
  sound = mnemonic_sound;
  complete = mnemonic_complete;
  takes = mnemonic_takes;
  balanced = mnemonic_balanced;
  asks = nothing;
  moves = λ v c r s a p. p;
}

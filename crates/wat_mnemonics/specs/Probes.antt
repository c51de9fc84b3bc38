-- The counts of the lookup of a word.
use Rattle.std.specs.Prelude.{◌+◌, ◌≤◌, Result}
use Rattle.wat_mnemonics.specs.Prelude.{Error, ReadsAt, State, plain, mnemonic}
use Rattle.wat_tokens.specs.Cost.{words_too}
use Rattle.wat_mnemonics.specs.declared.op.Op.{Op}

-- at most ten comparisons of the word with entries of the table were counted
abbrev pub AtMostTen : State → State → Type 0
AtMostTen a b = (a.probes ≤ b.probes) × (b.probes ≤ a.probes + 10)

-- the call returns the instruction whose word is the next token, allocates no memory, and counts no
-- turn and no height
abbrev pub ReadsWord : Result Op Error → State → State → Type 0
ReadsWord r a b = ReadsAt words_too (plain (λ op. op)) mnemonic r a b

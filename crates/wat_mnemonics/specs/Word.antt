-- The word of an instruction, as a production.
use Rattle.std.specs.Prelude.{◌≡◌, ℕ, List, [], ◌∷◌, if◌then◌else◌, Option, Some, None}
use Rattle.wat_tokens.specs.Prelude.{bytes_eq, Token, Keyword, Read, with_rest}
use Rattle.wat_mnemonics.specs.Ops.{op_word}
use Rattle.wat_mnemonics.specs.declared.op.Op.{Op}
use Rattle.wat_mnemonics.specs.Table.{all_ops}

-- the first instruction with the word
abbrev pub first_with : List ℕ → List Op → Option Op
first_with w [] = None
first_with w (x ∷ xs) = if bytes_eq (op_word x) w then Some x else first_with w xs

-- the instruction of a word
unfoldable pub mnemonic_of : List ℕ → Option Op
mnemonic_of w = first_with w all_ops

-- ---- the production

-- the word of the instruction
abbrev pub mnemonic_spells : Op → List Token → List Token → Type 0
mnemonic_spells x c r = c ≡ Keyword (op_word x) ∷ []

abbrev pub mnemonic_reads : List Token → Read Op
mnemonic_reads (Keyword w ∷ r) = with_rest (mnemonic_of w) r
mnemonic_reads _ = None

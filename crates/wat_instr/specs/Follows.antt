-- The rests that may follow an instruction, in place of any other rest.
use Rattle.std.specs.Prelude.{◌≡◌, true, false, List, ◌∷◌, ◌⊎◌, codes}
use Rattle.wat_mnemonics.specs.Prelude.{Token, Keyword, begins_word, ends, second, op_word}
use Rattle.wat_mnemonics.specs.declared.op.Op.{Op}

-- the second token is not one of the keywords `type`, `param` and `result`
abbrev pub NoTypeSecond : List Token → Type 0
NoTypeSecond s =
    (second (begins_word (codes "type")) s ≡ false)
    × (second (begins_word (codes "param")) s ≡ false)
    × (second (begins_word (codes "result")) s ≡ false)

-- the first token is a mnemonic
abbrev pub BeginsMnemonic : List Token → Type 0
BeginsMnemonic s = (x : Op) × (t : List Token) × (s ≡ Keyword (op_word x) ∷ t)

-- the rest begins with a mnemonic, begins with `)` or is empty; and its second token is not one of
-- the keywords `type`, `param` and `result`
abbrev pub MayFollow : List Token → Type 0
MayFollow s = (BeginsMnemonic s ⊎ (ends s ≡ true)) × NoTypeSecond s

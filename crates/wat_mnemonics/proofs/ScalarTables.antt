-- The tables of the instructions without an operand, except vector instructions.
use Rattle.std.specs.Prelude.{◌≡◌, List, ℕ, [], get_or, map, refl}
use Rattle.wat_mnemonics.specs.Scalar.{scalar_opcode, scalar_word}
use denote.Enum.Declared.{tag_of}
use Rattle.wat_mnemonics.specs.contracts.scalar.ScalarOp.{the_type}
use Rattle.wat_mnemonics.specs.declared.scalar.ScalarOp.{ScalarOp}
use Rattle.wat_mnemonics.specs.declared.scalar.TheConstants.{WORDS, OPCODES}
use Rattle.wat_mnemonics.specs.declared.scalar.ScalarOp.TheVariants as scalar
use Rattle.wat_mnemonics.specs.declared.opcode.Opcode.TheVariants as o

abbrev words : List (List ℕ)
words = map (λ w. w.now) WORDS

-- the word of each variant is at the variant's tag
pub word_at : (x : ScalarOp) → get_or words (tag_of the_type x) [] ≡ scalar_word x
word_at x = elim x as (λ y. get_or words (tag_of the_type y) [] ≡ scalar_word y) [ scalar.unreachable ↦ refl | _ ↦ refl ]

-- the opcode of each variant is at the variant's tag
pub opcode_at : (x : ScalarOp) → get_or OPCODES (tag_of the_type x) o.Absent ≡ scalar_opcode x
opcode_at x = elim x as (λ y. get_or OPCODES (tag_of the_type y) o.Absent ≡ scalar_opcode y) [ scalar.unreachable ↦ refl | _ ↦ refl ]

-- The tables of the vector instructions.
use Rattle.std.specs.Prelude.{◌≡◌, List, ℕ, [], get_or, map, refl}
use Rattle.wat_mnemonics.specs.Vector.{vector_opcode, vector_word}
use denote.Enum.Declared.{tag_of}
use Rattle.wat_mnemonics.specs.contracts.vector.VectorOp.{the_type}
use Rattle.wat_mnemonics.specs.declared.vector.VectorOp.{VectorOp}
use Rattle.wat_mnemonics.specs.declared.vector.TheConstants.{WORDS, OPCODES}
use Rattle.wat_mnemonics.specs.declared.vector.VectorOp.TheVariants as vector
use Rattle.wat_mnemonics.specs.declared.opcode.Opcode.TheVariants as o

abbrev words : List (List ℕ)
words = map (λ w. w.now) WORDS

-- the word of each variant is at the variant's tag
pub word_at : (x : VectorOp) → get_or words (tag_of the_type x) [] ≡ vector_word x
word_at x = elim x as (λ y. get_or words (tag_of the_type y) [] ≡ vector_word y) [ vector.i8x16_swizzle ↦ refl | _ ↦ refl ]

-- the opcode of each variant is at the variant's tag
pub opcode_at : (x : VectorOp) → get_or OPCODES (tag_of the_type x) o.Absent ≡ vector_opcode x
opcode_at x = elim x as (λ y. get_or OPCODES (tag_of the_type y) o.Absent ≡ vector_opcode y) [ vector.i8x16_swizzle ↦ refl | _ ↦ refl ]

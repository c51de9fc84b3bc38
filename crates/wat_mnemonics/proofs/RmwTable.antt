-- The table of the words of the read-modify-write accesses.
use Rattle.std.specs.Prelude.{◌≡◌, List, ℕ, [], get_or, map, refl}
use denote.Enum.Declared.{tag_of}
use Rattle.wat_mnemonics.specs.Access.{rmw_access_word}
use Rattle.wat_mnemonics.specs.contracts.access.RmwAccessOp.{the_type}
use Rattle.wat_mnemonics.specs.declared.access.RmwAccessOp.{RmwAccessOp}
use Rattle.wat_mnemonics.specs.declared.access.TheConstants.{RMW_WORDS}
use Rattle.wat_mnemonics.specs.declared.access.RmwAccessOp.TheVariants as rmw_access

abbrev words : List (List ℕ)
words = map (λ w. w.now) RMW_WORDS

-- the word of each variant is at the variant's tag
pub word_at : (x : RmwAccessOp) → get_or words (tag_of the_type x) [] ≡ rmw_access_word x
word_at x = elim x as (λ y. get_or words (tag_of the_type y) [] ≡ rmw_access_word y) [ rmw_access.i32_atomic_rmw_add ↦ refl | _ ↦ refl ]

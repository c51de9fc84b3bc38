-- Words in strict order, and the words of the table.
use Rattle.std.specs.Prelude.{◌≡◌, ℕ, List, [], ◌∷◌, map, Bool, true, ◌&&◌}
use Rattle.std.specs.Cmp.Lexicographic.{slice_cmp}
use Rattle.wat_tokens.specs.Prelude.{nat_cmp, is_lt, Ordering, Less, Greater}
use Rattle.wat_mnemonics.specs.Ops.{op_word}
use Rattle.wat_mnemonics.specs.declared.op.Op.{Op}
use Rattle.wat_mnemonics.specs.Table.{all_ops}
use Rattle.wat_mnemonics.specs.declared.op.Op.TheVariants as h
use Rattle.wat_mnemonics.specs.declared.indexed.BlockOp.TheVariants as block

-- the default for an index past the end
abbrev pub first : Op
first = h.Block block.block

-- the order of two lists of bytes
abbrev pub cmp : List ℕ → List ℕ → Ordering
cmp = slice_cmp nat_cmp

abbrev pub IsBelow : List ℕ → List ℕ → Type 0
IsBelow x y = cmp x y ≡ Less

abbrev pub IsAbove : List ℕ → List ℕ → Type 0
IsAbove x y = cmp x y ≡ Greater

-- each list of bytes is less than the next
abbrev pub rises : List (List ℕ) → Bool
rises [] = true
rises (x ∷ []) = true
rises (x ∷ (y ∷ ys)) = is_lt (cmp x y) && rises (y ∷ ys)

-- the words of the table
abbrev pub words : List (List ℕ)
words = map op_word all_ops

-- The bytes that are written at a token.
use Rattle.std.specs.Prelude.{ℕ, ◌+◌, List, [], ◌++◌, slice_range, codes}
use Rattle.wat_masked.specs.Text.{zero_bytes}
use Rattle.wat_masked.specs.declared.change.Change.{Change}
use Rattle.wat_masked.specs.declared.change.Change.TheVariants as of

-- the bytes that are written at a token, if the text is written up to `done`, and the new `done`
abbrev pub written : List ℕ → ℕ → ℕ → Change → List ℕ
written text done at of.Keep = []
written text done at of.Word = slice_range text done at ++ codes "i"
written text done at (of.Literal n) = slice_range text done at ++ zero_bytes n

abbrev pub written_to : ℕ → ℕ → Change → ℕ
written_to done at of.Keep = done
written_to done at of.Word = at + 1
written_to done at (of.Literal n) = at + n

-- the number of bytes that are replaced
abbrev pub size_of : Change → ℕ
size_of of.Keep = 0
size_of of.Word = 1
size_of (of.Literal n) = n

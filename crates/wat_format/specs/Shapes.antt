-- Pieces of a text by their shapes.
use Rattle.std.specs.Prelude.{◌≡◌, ◌≤◌, ◌<◌, ◌+◌, ◌-◌, ℕ, nat_lt, if◌then◌else◌, Bool, true, false, not, ◌==◌, ◌&&◌, ◌⊎◌, List, [], ◌∷◌, ◌++◌, length, drop, replicate, slice_index, codes}
use Prim.Native.Char.{code}
use Rattle.wat_lexer.specs.Prelude.{AllByRecursion, is_space, is_line_end, Inside, Begins, Run, in_no_run, Broken, offset_of, class, LParen, RParen}
use Rattle.wat_lexer.specs.declared.fault.Error.{Error}
use Rattle.wat_format.specs.Parts.{Part, a_token, a_comment}
use Rattle.wat_format.specs.declared.piece.Shape.{Shape}
use Rattle.wat_format.specs.declared.piece.Shape.TheVariants as of

abbrev pub is_opening : Shape → Bool
is_opening of.Open = true
is_opening _ = false

-- bytes of the shape
abbrev pub IsOfShape : Shape → List ℕ → Type 0
IsOfShape of.Line x =
    (y : List ℕ) × (x ≡ codes ";;" ++ y) × AllByRecursion (λ b. is_line_end b ≡ false) y
IsOfShape of.Block x = (y : List ℕ) × (x ≡ codes "(;" ++ y) × Inside 0 y
IsOfShape of.Open x = x ≡ codes "("
IsOfShape of.Close x = x ≡ codes ")"
IsOfShape of.Word x = (0 < length x) × Run x

-- the bytes as a part; the flag is whether a `(` is directly before the bytes
abbrev pub part_of : Bool → Shape → List ℕ → Part
part_of behind of.Line x = a_comment x
part_of behind of.Block x = a_comment x
part_of behind of.Open x = a_token x LParen
part_of behind of.Close x = a_token x RParen
part_of behind of.Word x = a_token x (class behind x)

-- a byte can be directly after a piece of the shape
abbrev pub follows : Shape → ℕ → Bool
follows of.Line b = is_line_end b
follows of.Block b = true
follows of.Open b = not (b == code ";")
follows of.Close b = true
follows of.Word b = in_no_run b

-- a text can be directly after a piece of the shape
abbrev pub Follows : Shape → List ℕ → Type 0
Follows s rest = Begins (follows s) rest

-- a character ends at the offset, since the byte before or after the offset is ASCII
abbrev pub IsEdge : List ℕ → ℕ → Type 0
IsEdge text i = (slice_index text (i - 1) < 128) ⊎ (i < length text → slice_index text i < 128)

-- the text has no piece at the offset, for the reason that the error gives
abbrev pub WrongAt : List ℕ → ℕ → Error → Type 0
WrongAt text at e =
    (offset_of e.span ≤ length text) × Broken (drop at text) e.fault (drop (offset_of e.span) text)

-- line ends, and then spaces
abbrev pub gap_bytes : ℕ → ℕ → List ℕ
gap_bytes lines spaces = replicate lines (code "\n") ++ replicate spaces (code " ")

-- no line ends and no spaces
abbrev pub no_gap : ℕ → ℕ → Bool
no_gap lines spaces = (lines == 0) && (spaces == 0)

-- the first byte of a gap and the byte after the gap
abbrev pub gap_first : ℕ → ℕ → ℕ → ℕ
gap_first lines spaces b =
    if nat_lt 0 lines then code "\n" else (if nat_lt 0 spaces then code " " else b)

abbrev pub no_bytes : List ℕ → Bool
no_bytes [] = true
no_bytes (_ ∷ _) = false

abbrev pub AllSpaces : List ℕ → Type 0
AllSpaces x = AllByRecursion (λ b. is_space b ≡ true) x

-- Blanks that can replace the blanks of the text between a piece and the first byte of the next: a
-- `@` stays directly after a `(`, or away from it.
abbrev pub Separates : Shape → List ℕ → ℕ → List ℕ → Type 0
Separates last blanks first x =
    AllSpaces x × Follows last (x ++ first ∷ [])
    × (first ≡ code "@" → no_bytes x && is_opening last ≡ no_bytes blanks && is_opening last)

-- the number of open groups after a piece
abbrev pub groups_behind : Shape → ℕ → ℕ
groups_behind of.Open depth = depth + 1
groups_behind of.Close depth = depth - 1
groups_behind _ depth = depth

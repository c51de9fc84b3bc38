-- The bytes of gaps.
use Rattle.std.proofs.Common.{◌≡◌, ℕ, zero, suc, List, [], ◌∷◌, ◌++◌, length, refl, ap, sym, ◌∙◌, arith, Bool, true, false, nat_lt, replicate, ◌==◌, ◌&&◌}
use Rattle.wat_format.specs.Prelude.{nat_tests, is_space}
use Rattle.wat_format.specs.Shapes.{gap_bytes, no_bytes, Follows, is_opening, AllSpaces, Separates, no_gap, gap_first, follows}
use Rattle.wat_format.specs.declared.piece.Shape.{Shape}
use Rattle.wat_format.specs.declared.piece.Shape.TheVariants as of

replicate_spaces : (n b : ℕ) → is_space b ≡ true → AllSpaces (replicate n b)
replicate_spaces zero b h = tt
replicate_spaces (suc n) b h = (h, replicate_spaces n b h)

gap_spaces : (lines spaces : ℕ) → AllSpaces (gap_bytes lines spaces)
gap_spaces zero spaces = replicate_spaces spaces 32 refl
gap_spaces (suc n) spaces = (refl, gap_spaces n spaces)

some_lt : (n : ℕ) → nat_lt 0 (suc n) ≡ true
some_lt n = grind (arith, nat_tests)

some_ne : (n : ℕ) → (suc n == 0) ≡ false
some_ne n = grind (arith, nat_tests)

gap_none : (lines spaces : ℕ) → no_bytes (gap_bytes lines spaces) ≡ no_gap lines spaces
gap_none zero zero = refl
gap_none zero (suc n) = rw (some_ne n) refl
gap_none (suc n) spaces = rw (some_ne n) refl

none_eq : (x : List ℕ) → no_bytes x ≡ (length x == 0)
none_eq [] = refl
none_eq (_ ∷ x) = rw (some_ne (length x)) refl

gap_follows : (s : Shape) (lines spaces b : ℕ) → follows s (gap_first lines spaces b) ≡ true → Follows s (gap_bytes lines spaces ++ (b ∷ []))
gap_follows s zero zero b h = h
gap_follows s zero (suc n) b h = rw (some_lt n) at h
gap_follows s (suc n) spaces b h = rw (some_lt n) at h

pub gap_separates : (s : Shape) (blanks : List ℕ) (lines spaces b : ℕ) (directly : Bool) → directly ≡ (length blanks == 0) → follows s (gap_first lines spaces b) ≡ true → (b ≡ 64 → no_gap lines spaces && is_opening s ≡ directly && is_opening s) → Separates s blanks b (gap_bytes lines spaces)
gap_separates s blanks lines spaces b directly d h flag =
    (gap_spaces lines spaces, gap_follows s lines spaces b h, λ e. ap (λ v. v && is_opening s) (gap_none lines spaces) ∙ flag e ∙ ap (λ v. v && is_opening s) (d ∙ sym (none_eq blanks)))

-- if a byte can follow, a text that begins with that byte can follow
pub follows_more : (s : Shape) (x y : List ℕ) (b : ℕ) → Follows s (x ++ b ∷ []) → Follows s (x ++ b ∷ y)
follows_more s [] y b h = h
follows_more s (_ ∷ _) y b h = h

pub follows_less : (s : Shape) (x y : List ℕ) (b : ℕ) → Follows s (x ++ b ∷ y) → Follows s (x ++ b ∷ [])
follows_less s [] y b h = h
follows_less s (_ ∷ _) y b h = h

pub block_followed : (x : List ℕ) → Follows of.Block x
block_followed [] = tt
block_followed (_ ∷ _) = refl

pub line_follows : (s : Shape) → follows s 10 ≡ true
line_follows of.Line = refl
line_follows of.Block = refl
line_follows of.Open = refl
line_follows of.Close = refl
line_follows of.Word = refl

-- The offsets of a text's tokens: in order, and each parenthesis at a separate byte.
use Rattle.std.proofs.Common.{◌≡◌, ℕ, ◌-◌, ◌<◌, ◌≤◌, List, [], ◌∷◌, ◌++◌, length, drop, get_or, refl, ap, sym, ◌∙◌, subst, arith, length-append, append_assoc, zero, suc, inl, inr, Bool, true, false, Option, Some, None}
use Rattle.std.proofs.Math.Seq.{get_or-append_seam}
use Rattle.std.proofs.lemmas.Str.{IsCharBoundary-after_ascii, IsCharBoundary-before_ascii, IsCharBoundary-end}
use Rattle.wat_core.specs.Prelude.{IsUtf8, cases_Bool, IsCut, shuts, deeper, Token, Placed, LParen, RParen, closing, end_by, IsPart}
use Rattle.wat_lexer.specs.Cut.{Cuts, done, blank, token, IsToken}
use Rattle.wat_lexer.specs.View.{is_paren}

abbrev pub IsAsciiAt : List ℕ → ℕ → Type 0
IsAsciiAt text i = (i < length text) × (get_or text i 0 < 128)

-- no token has an offset before the place, and none before the preceding token
abbrev pub Stands : List ℕ → ℕ → List Placed → Type 0
Stands text low [] = Unit {0}
Stands text low (p ∷ ts) = (low ≤ p.offset) × (is_paren p.token ≡ true → IsAsciiAt text p.offset) × Stands text p.offset ts

stands_less : (text : List ℕ) (low high : ℕ) (ts : List Placed) → low ≤ high → Stands text high ts → Stands text low ts
stands_less text low high [] le s = tt
stands_less text low high (p ∷ ts) le (a, b, c) = (omega arith, b, c)

stands_drop : (text : List ℕ) (low i : ℕ) (ts : List Placed) → Stands text low ts → Stands text low (drop i ts)
stands_drop text low zero ts s = s
stands_drop text low (suc i) [] s = tt
stands_drop text low (suc i) (p ∷ ts) (a, b, c) = stands_drop text low i ts (stands_less text low p.offset ts a c)

paren_byte : (behind : Bool) (x rest : List ℕ) (t : Token) → IsToken behind x rest t → is_paren t ≡ true → (b : ℕ) × (y : List ℕ) × (x ≡ b ∷ y) × (b < 128)
paren_byte behind x rest LParen (e, h) p = (40, [], e, omega arith)
paren_byte behind x rest RParen e p = (41, [], e, omega arith)
paren_byte behind x rest _ e p = absurd cc

byte_at : (text before x rest : List ℕ) (b : ℕ) (y : List ℕ) → text ≡ before ++ (x ++ rest) → x ≡ b ∷ y → b < 128 → IsAsciiAt text (length before)
byte_at text before x rest b y e f lt =
    let whole : text ≡ before ++ b ∷ (y ++ rest) = e ∙ ap (λ l. before ++ (l ++ rest)) f in
    rw whole (omega (arith, length-append before (b ∷ (y ++ rest))), rw (get_or-append_seam before b (y ++ rest) 0) lt)

stands_cuts : (n : ℕ) (behind : Bool) (end : List ℕ) (ts : List Placed) → Cuts n behind end ts → (text before : List ℕ) → text ≡ before ++ end → n ≡ length text → Stands text (length before) ts
stands_cuts n behind end ts (done m b) text before e size = tt
stands_cuts n behind end ts (blank m b whole x rest us is h c) text before e size =
    let next : text ≡ (before ++ x) ++ rest = e ∙ ap (λ l. before ++ l) is ∙ sym (append_assoc before x rest) in
    stands_less text (length before) (length (before ++ x)) us (omega (arith, length-append before x)) (stands_cuts n false rest us c text (before ++ x) next size)
stands_cuts n behind end ts (token m b whole x rest t us is h c) text before e size =
    let next : text ≡ (before ++ x) ++ rest = e ∙ ap (λ l. before ++ l) is ∙ sym (append_assoc before x rest) in
    let here : n - length whole ≡ length before = omega (arith, ap length e, length-append before whole) in
    rw here (
      omega arith,
      (λ p. let (byte, y, f, lt) = paren_byte b x rest t h p in byte_at text before x rest byte y (e ∙ ap (λ l. before ++ l) is) f lt),
      stands_less text (length before) (length (before ++ x)) us (omega (arith, length-append before x)) (stands_cuts n _ rest us c text (before ++ x) next size),
    )

shuts_paren : (t : Token) (depth : ℕ) → shuts t depth ≡ true → is_paren t ≡ true
shuts_paren RParen zero h = refl
shuts_paren RParen (suc depth) h = cc
shuts_paren _ depth h = cc

abbrev ClosesAt : List ℕ → ℕ → Option (ℕ × List Placed) → Type 0
ClosesAt text low None = Unit {0}
ClosesAt text low (Some c) = (low ≤ c.0) × IsAsciiAt text c.0

closes_less : (text : List ℕ) (low high : ℕ) (o : Option (ℕ × List Placed)) → low ≤ high → ClosesAt text high o → ClosesAt text low o
closes_less text low high None le h = tt
closes_less text low high (Some c) le (a, b) = (omega arith, b)

closing_stands : (text : List ℕ) (low depth : ℕ) (ts : List Placed) → Stands text low ts → ClosesAt text low (closing depth ts)
unfolding closing
closing_stands text low depth [] s = tt
closing_stands text low depth (p ∷ ts) (a, b, c) = elim (cases_Bool (shuts p.token depth)) [
  | inl e ↦ rw e (a, b (shuts_paren p.token depth e))
  | inr e ↦ rw e (closes_less text low p.offset (closing (deeper p.token depth) ts) a (closing_stands text p.offset (deeper p.token depth) ts c))
]

part_by : (text : List ℕ) (from : ℕ) (o : Option (ℕ × List Placed)) → IsUtf8 text → IsAsciiAt text from → ClosesAt text from o → IsPart text (record { from = from; end = end_by (length text) o })
part_by text from None u (lt, ascii) h = record { order = omega arith; begins = IsCharBoundary-before_ascii text from lt ascii; ends = IsCharBoundary-end text }
part_by text from (Some c) u (lt, ascii) (le, (in_text, byte)) = record {
  order = omega arith;
  begins = IsCharBoundary-before_ascii text from lt ascii;
  ends = IsCharBoundary-after_ascii text c.0 u in_text byte;
}

-- a group of the text's cut is a part of it
pub group_part : (text : List ℕ) (ts inner : List Placed) (i from : ℕ) → IsUtf8 text → IsCut text ts → drop i ts ≡ record { token = LParen; offset = from } ∷ inner → IsPart text (record { from = from; end = end_by (length text) (closing 0 inner) })
group_part text ts inner i from u cut e =
    let s : Stands text 0 (record { token = LParen; offset = from } ∷ inner) = subst (Stands text 0) e (stands_drop text 0 i ts (stands_cuts (length text) false text ts cut.0 text [] refl refl)) in
    part_by text from (closing 0 inner) u (s.1 refl) (closing_stands text from 0 inner s.2)

-- Pieces and gaps before a text that is read.
use Rattle.std.proofs.Common.{◌≡◌, ℕ, ◌-◌, ◌<◌, List, [], ◌∷◌, ◌++◌, length, refl, ap, sym, subst, inl, inr, Bool, true, false, ◌==◌, ◌&&◌, ◌⊎◌}
use Rattle.wat_lexer.specs.Laws.Prelude.{eqb-true, IsToken, Run, class_reserved, by_test}
use Rattle.wat_format.specs.Prelude.{Begins, in_no_run, Cuts, Fails, class, Token, LParen, RParen, Keyword, Id, Annotation, Integer, String, Reserved, Placed, tokens_of, is_open, Fault, class_right, KnownRight, Part, a_token, a_comment, Comment, HasParts, done, space, comment, token, toks_in, is_opening, IsOfShape, part_of, Follows, no_bytes, AllSpaces}
use Rattle.wat_format.specs.declared.piece.Shape.{Shape}
use Rattle.wat_lexer.specs.Cut as cut
use Rattle.wat_format.specs.declared.piece.Shape.TheVariants as of

token_of : (behind : Bool) (x rest : List ℕ) (t : Token) → class behind x ≡ t → 0 < length x → Run x → Begins in_no_run rest → KnownRight behind x t → IsToken behind x rest t × (is_open t ≡ false)
token_of behind x rest LParen c l r k h = absurd h
token_of behind x rest RParen c l r k h = absurd h
token_of behind x rest (Reserved n) c l r k h = ((h, l, r, k, class_reserved behind x n c), refl)
token_of behind x rest (Keyword n) c l r k h = ((r, k, h), refl)
token_of behind x rest (Id n) c l r k h = ((r, k, h), refl)
token_of behind x rest (Annotation n) c l r k h = ((r, k, h), refl)
token_of behind x rest (Integer n) c l r k h = ((r, k, h), refl)
token_of behind x rest (String n) c l r k h = ((r, k, h), refl)

-- the piece is a comment, or a token
abbrev pub IsPiece : Bool → Shape → List ℕ → List ℕ → Type 0
IsPiece behind s x rest =
    (Comment x rest × (is_opening s ≡ false) × (part_of behind s x ≡ a_comment x))
    ⊎ ((t : Token) × IsToken behind x rest t × (is_open t ≡ is_opening s) × (part_of behind s x ≡ a_token x t))

pub piece_is : (behind : Bool) (s : Shape) (x rest : List ℕ) → IsOfShape s x → Follows s rest → IsPiece behind s x rest
piece_is behind of.Line x rest (y, e, all) f = inl (subst (λ z. Comment z rest) (sym e) (cut.line y rest all f, refl), refl, refl)
piece_is behind of.Block x rest (y, e, h) f = inl (subst (λ z. Comment z rest) (sym e) (cut.block y rest h, refl), refl, refl)
piece_is behind of.Open x rest e f = inr (LParen, (e, f), refl, refl)
piece_is behind of.Close x rest e f = inr (RParen, e, refl, refl)
piece_is behind of.Word x rest (l, run) f =
    let (k, none_open) = token_of behind x rest (class behind x) refl l run f (class_right behind x) in
    inr (class behind x, k, none_open, refl)

reads_as : (behind : Bool) (s : Shape) (x rest : List ℕ) (ps : List Part) → IsPiece behind s x rest → HasParts (is_opening s) rest ps → HasParts behind (x ++ rest) (part_of behind s x ∷ ps)
reads_as behind s x rest ps (inl (c, none_open, is)) r = rw is (comment behind (x ++ rest) x rest ps refl c (rw none_open at r))
reads_as behind s x rest ps (inr (t, k, same, is)) r = rw is (token behind (x ++ rest) x rest t ps refl k (rw same r))

pub reads_piece : (behind : Bool) (s : Shape) (x rest : List ℕ) (ps : List Part) → IsOfShape s x → Follows s rest → HasParts (is_opening s) rest ps → HasParts behind (x ++ rest) (part_of behind s x ∷ ps)
reads_piece behind s x rest ps h f r = reads_as behind s x rest ps (piece_is behind s x rest h f) r

fails_as : (behind : Bool) (s : Shape) (x rest : List ℕ) (f : Fault) (at : List ℕ) → IsPiece behind s x rest → Fails (is_opening s) rest f at → Fails behind (x ++ rest) f at
fails_as behind s x rest f at (inl (c, none_open, is)) r = cut.behind_blank behind (x ++ rest) x rest f at refl c.0 (rw none_open at r)
fails_as behind s x rest f at (inr (t, k, same, is)) r = cut.behind_token behind (x ++ rest) x rest t f at refl k (rw same r)

pub fails_piece : (behind : Bool) (s : Shape) (x rest : List ℕ) (f : Fault) (at : List ℕ) → IsOfShape s x → Follows s rest → Fails (is_opening s) rest f at → Fails behind (x ++ rest) f at
fails_piece behind s x rest f at h k r = fails_as behind s x rest f at (piece_is behind s x rest h k) r

-- FLAGS

class_flag : (c : ℕ) (t : List ℕ) (a b : Bool) → (c == 64) ≡ false → class a (c ∷ t) ≡ class b (c ∷ t)
unfolding class
class_flag c t true true h = refl
class_flag c t false false h = refl
class_flag c t true false h = rw h refl
class_flag c t false true h = rw h refl

-- a `(` directly before a piece changes nothing, unless the piece begins with `@`
pub part_flag : (s : Shape) (b : ℕ) (y : List ℕ) (f g : Bool) → (b ≡ 64 → f ≡ g) → part_of f s (b ∷ y) ≡ part_of g s (b ∷ y)
part_flag of.Line b y f g h = refl
part_flag of.Block b y f g h = refl
part_flag of.Open b y f g h = refl
part_flag of.Close b y f g h = refl
part_flag of.Word b y f g h =
    by_test {P = a_token (b ∷ y) (class f (b ∷ y)) ≡ a_token (b ∷ y) (class g (b ∷ y))} (b == 64)
    (λ e. ap (λ w. a_token (b ∷ y) (class w (b ∷ y))) (h (eqb-true b 64 e)))
    (λ e. ap (λ t. a_token (b ∷ y) t) (class_flag b y f g e))

-- SPACES

pub none_false : (sep : List ℕ) → no_bytes sep && false ≡ false
none_false [] = refl
none_false (_ ∷ _) = refl

pub reads_gap : (sep z : List ℕ) (w : Bool) (ps : List Part) → AllSpaces sep → HasParts (no_bytes sep && w) z ps → HasParts w (sep ++ z) ps
reads_gap [] z w ps h r = r
reads_gap (b ∷ sep) z w ps h r = space w b (sep ++ z) ps h.0 (reads_gap sep z false ps h.1 (rw (none_false sep) r))

-- CUTS

pub reads_cuts : (n : ℕ) {behind : Bool} {s : List ℕ} {ps : List Part} → HasParts behind s ps → (us : List Placed) × Cuts n behind s us × (tokens_of us ≡ toks_in ps)
reads_cuts n (done w) = ([], cut.done n w, refl)
reads_cuts n (space w b rest ps h r) = let (us, c, e) = reads_cuts n r in (us, cut.blank n w (b ∷ rest) (b ∷ []) rest us refl (cut.space b rest h) c, e)
reads_cuts n (comment w text x rest ps s h r) = let (us, c, e) = reads_cuts n r in (us, cut.blank n w text x rest us s h.0 c, e)
reads_cuts n (token w text x rest t ps s h r) = let (us, c, e) = reads_cuts n r in (record { token = t; offset = n - length text } ∷ us, cut.token n w text x rest t us s h c, ap (λ l. t ∷ l) e)

-- A text has at most one reading.
use Rattle.std.proofs.Common.{◌≡◌, ℕ, ◌-◌, List, [], ◌∷◌, ◌++◌, refl, sym, ◌∙◌, Bool, true, false, not}
use Rattle.wat_lexer.specs.Laws.Prelude.{Beginning, Nothing, BlankTo, TokenTo, Wrong, front, front_of, Blank}
use Rattle.wat_format.specs.Prelude.{is_space, Cuts, Placed, is_open, Part, a_token, a_comment, Comment, HasParts, done, space, comment, token, not-true}
use Rattle.wat_lexer.specs.Laws.Fronts.{blank_front, token_front, front_nothing}
use Rattle.wat_lexer.specs.Cut as cut

same_front : (s x y rest : List ℕ) → s ≡ x ++ rest → s ≡ y ++ rest → x ≡ y
same_front s x y rest e f = sym (front_of s x rest e) ∙ front_of s y rest f

abbrev pub space_first : List ℕ → Bool
space_first [] = false
space_first (b ∷ _) = is_space b

-- the parts of a text whose first blank ends at the rest, by whether that blank is a space
abbrev pub ReadBlank : Bool → List ℕ → List ℕ → List Part → Type 0
ReadBlank true s rest ps = HasParts false rest ps
ReadBlank false s rest ps = (x : List ℕ) × (us : List Part) × (s ≡ x ++ rest) × (ps ≡ a_comment x ∷ us) × HasParts false rest us

-- the parts of a text, by its beginning
abbrev pub ReadBy : List ℕ → Beginning → List Part → Type 0
ReadBy s Nothing ps = ps ≡ []
ReadBy s (BlankTo rest) ps = ReadBlank (space_first s) s rest ps
ReadBy s (TokenTo t rest) ps = (x : List ℕ) × (us : List Part) × (s ≡ x ++ rest) × (ps ≡ a_token x t ∷ us) × HasParts (is_open t) rest us
ReadBy s (Wrong f at) ps = ⊥

comment_first : (x rest : List ℕ) → Comment x rest → space_first (x ++ rest) ≡ false
comment_first x rest (cut.space b r h, m) = not-true (is_space b) m
comment_first x rest (cut.line y r all ends, m) = refl
comment_first x rest (cut.block y r h, m) = refl

read_front : {behind : Bool} {s : List ℕ} {ps : List Part} → HasParts behind s ps → ReadBy s (front behind s) ps
read_front (done w) = rw (front_nothing w) refl
read_front (space w b rest ps h r) = rw (blank_front w (b ∷ rest) (b ∷ []) rest refl (cut.space b rest h), h) r
read_front (comment w text x rest ps e c r) =
    let first : space_first text ≡ false = rw e (comment_first x rest c) in
    rw (blank_front w text x rest e c.0, first) (x, ps, e, refl, r)
read_front (token w text x rest t ps e k r) = rw (token_front w text x rest t e k) (x, ps, e, refl, r)

joined : (make : List ℕ → Part) (x y : List ℕ) (ps us qs : List Part) → x ≡ y → ps ≡ us → qs ≡ make y ∷ us → make x ∷ ps ≡ qs
joined make x y ps us qs e f is = (λ i. make (e i) ∷ f i) ∙ sym is

pub one_reading : {behind : Bool} {s : List ℕ} {ps qs : List Part} → HasParts behind s ps → HasParts behind s qs → ps ≡ qs
one_reading (done w) k = sym (rw (front_nothing w) at (read_front k))
one_reading (space w b rest ps h r) k = one_reading r (rw (blank_front w (b ∷ rest) (b ∷ []) rest refl (cut.space b rest h), h) at (read_front k))
one_reading (comment w text x rest ps e c r) k =
    let first : space_first text ≡ false = rw e (comment_first x rest c) in
    let (y, us, f, is, q) = rw (blank_front w text x rest e c.0, first) at (read_front k) in
    joined a_comment x y ps us _ (same_front text x y rest e f) (one_reading r q) is
one_reading (token w text x rest t ps e k r) j =
    let (y, us, f, is, q) = rw (token_front w text x rest t e k) at (read_front j) in
    joined (λ l. a_token l t) x y ps us _ (same_front text x y rest e f) (one_reading r q) is

-- a text that has a cut has parts
blank_reads : (w : Bool) (text x rest : List ℕ) (ps : List Part) → text ≡ x ++ rest → Blank x rest → HasParts false rest ps → (qs : List Part) × HasParts w text qs
blank_reads w text x rest ps e (cut.space b r h) k = (ps, rw e (space w b r ps h k))
blank_reads w text x rest ps e (cut.line y r all ends) k = (a_comment x ∷ ps, comment w text x r ps e (cut.line y r all ends, refl) k)
blank_reads w text x rest ps e (cut.block y r h) k = (a_comment x ∷ ps, comment w text x r ps e (cut.block y r h, refl) k)

pub cuts_read : {n : ℕ} {behind : Bool} {s : List ℕ} {ts : List Placed} → Cuts n behind s ts → (ps : List Part) × HasParts behind s ps
cuts_read (cut.done n w) = ([], done w)
cuts_read (cut.blank n w text x rest us e b c) = let (ps, r) = cuts_read c in blank_reads w text x rest ps e b r
cuts_read (cut.token n w text x rest t us e k c) = let (ps, r) = cuts_read c in (a_token x t ∷ ps, token w text x rest t ps e k r)

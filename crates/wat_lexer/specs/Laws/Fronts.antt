-- The blank or token in front of a text is exact, and so a text has at most one cut.
use Rattle.std.proofs.Common.{ap, sym, subst, ◌∙◌, arith, inl, inr, length-append, ◌≡◌, ℕ, ◌+◌, ◌-◌, ◌<◌, List, [], ◌∷◌, ◌++◌, length, refl, Bool, ◌⊎◌, true, false, ◌==◌, ◌&&◌, not, if◌then◌else◌, Option, None, Some}
use Rattle.std.proofs.lemmas.Bool.{eqb-true}
use Rattle.std.proofs.lemmas.Bool.Decides.{nat_tests}
use Rattle.wat_lexer.specs.Prelude.{is_idchar, is_space, is_integer, Token, LParen, RParen, Keyword, Id, Annotation, Integer, String, Reserved, Placed, is_open, Classed, IsToken, Inside, Str, Blank, space, line, block, Cuts, done, blank, token, Run, none, idchar, string, Begins, begins, in_no_run, Broken, wrong_char, open_comment, wrong_string, Fails, Beginning, Nothing, BlankTo, TokenTo, Wrong, front, run_front, comment_front, tail, behind_comment, behind_line, behind_run, class, string_at, RunEnd, Ends, Stuck, Between, Raw}
use Rattle.wat_lexer.specs.Cut.{at_once, behind_blank, behind_token}
use Rattle.wat_lexer.specs.declared.fault.Fault.{Fault}
use Rattle.wat_lexer.specs.declared.fault.Fault.TheVariants.{LexChar}
use Rattle.wat_lexer.specs.Laws.Strings.{string_sound, string_complete}
use Rattle.wat_lexer.specs.Laws.Pieces.{comment_sound, comment_complete, line_sound, line_complete, RunUpTo, run_sound, run_complete, run_stuck, ends_here, excluded}
use Rattle.wat_lexer.specs.Laws.Classes.{class_complete, class_right, class_reserved, class_none, KnownRight, no_integer}
use Rattle.wat_lexer.specs.Laws.Cases.{if_either}
use Rattle.wat_lexer.specs.Laws.Bytes.{front_of}

-- SOUND

abbrev pub FrontIs : Bool → List ℕ → Beginning → Type 0
FrontIs behind s Nothing = s ≡ []
FrontIs behind s (BlankTo rest) = (x : List ℕ) × (s ≡ x ++ rest) × Blank x rest
FrontIs behind s (TokenTo t rest) = (x : List ℕ) × (s ≡ x ++ rest) × IsToken behind x rest t
FrontIs behind s (Wrong f at) = Broken s f at

comment_right : (behind : Bool) (t : List ℕ) (o : Option (List ℕ)) → behind_comment 0 t ≡ o → FrontIs behind (40 ∷ 59 ∷ t) (comment_front (40 ∷ 59 ∷ t) o)
comment_right behind t None e = open_comment t (λ x rest s h. let found : behind_comment 0 t ≡ Some rest = rw s (comment_complete 0 x rest h) in cc)
comment_right behind t (Some rest) e = let (x, s, h) = comment_sound t 0 rest e in (40 ∷ 59 ∷ x, ap (λ l. 40 ∷ 59 ∷ l) s, block x rest h)

begins_is : (b : ℕ) (t : List ℕ) → begins b t ≡ true → t ≡ b ∷ tail t
begins_is b [] e = cc
begins_is b (c ∷ t) e = rw (eqb-true c b e)

begins_not : (t : List ℕ) → begins 59 t ≡ false → Begins (λ b. not (b == 59)) t
begins_not [] e = tt
begins_not (c ∷ t) e = rw e

token_of : (behind : Bool) (x rest : List ℕ) (t : Token) → class behind x ≡ t → 0 < length x → Run x
    → Begins in_no_run rest → KnownRight behind x t → IsToken behind x rest t
token_of behind x rest LParen c l r k h = absurd h
token_of behind x rest RParen c l r k h = absurd h
token_of behind x rest (Reserved n) c l r k h = (h, l, r, k, class_reserved behind x n c)
token_of behind x rest _ c l r k h = (r, k, h)

-- a byte that begins no blank, and no token except a run
abbrev NoPiece : ℕ → List ℕ → Type 0
NoPiece b t = (is_space b ≡ false) × ((b == 40) ≡ false) × ((b == 41) ≡ false) × ((b == 59) ≡ false)

nothing_run : (b : ℕ) (t x rest : List ℕ) → NoPiece b t → b ∷ t ≡ x ++ rest → length x ≡ 0 → Begins in_no_run rest → Broken (b ∷ t) LexChar (b ∷ t)
nothing_run b t [] rest (a, c, d, e) s size h = wrong_char b t a (rw (← s) at h) c d (rw e)
nothing_run b t (_ ∷ x) rest piece s size h = absurd (omega arith)

run_right : (behind : Bool) (b : ℕ) (t : List ℕ) → NoPiece b t → (e : RunEnd) → RunUpTo (b ∷ t) e → FrontIs behind (b ∷ t) (run_front behind (b ∷ t) e)
run_right behind b t piece (Stuck q) (x, s, r, (u, quote, none_there)) =
    rw (s, quote) (wrong_string x u r (λ y c rest s h. let found : string_at Raw u ≡ Some (c, rest) = rw s (string_complete y c rest h) in cc))
run_right behind b t piece (Ends rest) (x, s, r, ends) =
    let size : length (b ∷ t) ≡ length x + length rest = omega (arith, ap length s, length-append x rest) in
    if_either (FrontIs behind (b ∷ t)) (length rest == length (b ∷ t)) (Wrong LexChar (b ∷ t)) _
    (λ same. nothing_run b t x rest piece s (omega (arith, size, eqb-true (length rest) (length (b ∷ t)) same)) ends)
    (λ longer. let some_bytes : 0 < length x = grind (arith, nat_tests) in
    (x, s, rw (front_of (b ∷ t) x rest s) (token_of behind x rest (class behind x) refl some_bytes r ends (class_right behind x))))

pub front_right : (behind : Bool) (s : List ℕ) → FrontIs behind s (front behind s)
unfolding front
front_right behind [] = refl
front_right behind (b ∷ t) =
    let P : Beginning → Type 0 = FrontIs behind (b ∷ t) in
    if_either P (is_space b) (BlankTo t) _ (λ e. (b ∷ [], refl, space b t e))
    (λ no_space. if_either P (b == 40) (if begins 59 t then comment_front (b ∷ t) (behind_comment 0 (tail t)) else TokenTo LParen t) _
    (λ e. let is_paren = eqb-true b 40 e in
    if_either P (begins 59 t) _ _
    (λ c. subst (λ s. FrontIs behind s (comment_front s (behind_comment 0 (tail t)))) (λ i. sym is_paren i ∷ sym (begins_is 59 t c) i) (comment_right behind (tail t) (behind_comment 0 (tail t)) refl))
    (λ c. (b ∷ [], refl, (rw is_paren, begins_not t c))))
    (λ no_open. if_either P (b == 41) (TokenTo RParen t) _ (λ e. (b ∷ [], refl, rw (eqb-true b 41 e)))
    (λ no_close. if_either P (b == 59) (if begins 59 t then BlankTo (behind_line (tail t)) else Wrong LexChar (b ∷ t)) _
    (λ e. let is_mark = eqb-true b 59 e in
    if_either P (begins 59 t) _ _
    (λ c. let (x, s, all, ends) = line_sound (tail t) in (59 ∷ 59 ∷ x, (λ i. is_mark i ∷ (begins_is 59 t c ∙ ap (λ l. 59 ∷ l) s) i), line x (behind_line (tail t)) all ends))
    (λ c. rw is_mark (wrong_char 59 t refl refl refl refl c)))
    (λ no_mark. run_right behind b t (no_space, no_open, no_close, no_mark) (behind_run Between (b ∷ t)) (run_sound (length (b ∷ t)) (b ∷ t) (omega arith))))))

-- COMPLETE

pub blank_front : (behind : Bool) (text x rest : List ℕ) → text ≡ x ++ rest → Blank x rest → front behind text ≡ BlankTo rest
unfolding front
blank_front behind text x rest s (space b r e) = rw (s, e)
blank_front behind text x rest s (line y r all ends) = rw s (ap BlankTo (line_complete y r all ends))
blank_front behind text x rest s (block y r h) = rw s (ap (comment_front (40 ∷ 59 ∷ (y ++ r))) (comment_complete 0 y r h))

not_begins : (t : List ℕ) → Begins (λ b. not (b == 59)) t → begins 59 t ≡ false
not_begins [] e = refl
not_begins (c ∷ t) e = grind (arith, nat_tests)

pub in_run_front : (behind : Bool) (b : ℕ) (t : List ℕ) → (is_idchar b ≡ true) ⊎ (b ≡ 34) → front behind (b ∷ t) ≡ run_front behind (b ∷ t) (behind_run Between (b ∷ t))
unfolding front
in_run_front behind b t (inl h) =
    rw (excluded b 32 h refl, excluded b 9 h refl, excluded b 10 h refl, excluded b 13 h refl, excluded b 40 h refl, excluded b 41 h refl, excluded b 59 h refl)
in_run_front behind b t (inr h) = rw h

front_run : (behind : Bool) (x rest : List ℕ) → Run x → (length x ≡ 0 → begins 34 rest ≡ true) → front behind (x ++ rest) ≡ run_front behind (x ++ rest) (behind_run Between (x ++ rest))
front_run behind x [] none e = absurd (let f = e refl in cc)
front_run behind x (b ∷ rest) none e = in_run_front behind b rest (inr (eqb-true b 34 (e refl)))
front_run behind x rest (idchar b y e r) _ = in_run_front behind b (y ++ rest) (inl e)
front_run behind x rest (string y c z s r) _ = in_run_front behind 34 ((y ++ z) ++ rest) (inr refl)

run_token : (behind : Bool) (x rest : List ℕ) (t : Token) → Run x → 0 < length x
    → Begins in_no_run rest → class behind x ≡ t → front behind (x ++ rest) ≡ TokenTo t rest
run_token behind x rest t r l ends c =
    let longer : (length rest == length (x ++ rest)) ≡ false = grind (arith, nat_tests, length-append) in
    rw (front_run behind x rest r (λ z. absurd (omega arith)), run_complete x rest r ends, longer, front_of (x ++ rest) x rest refl, c)

some_integer : (x : List ℕ) → is_integer x ≡ true → 0 < length x
some_integer [] h = absurd (let f = sym no_integer ∙ h in cc)
some_integer (b ∷ x) h = omega arith

classed_some : (behind : Bool) (x : List ℕ) (t : Token) → Classed behind x t → 0 < length x
classed_some behind x (Keyword n) (e, all, b, y, s, low) = omega (arith, ap length s)
classed_some behind x (Id n) (y, s, h, k) = omega (arith, ap length s)
classed_some behind x (Annotation n) (w, (y, s, h, k)) = omega (arith, ap length s)
classed_some behind x (Integer n) (e, all, h) = some_integer x h
classed_some behind x (String n) (y, s, h) = omega (arith, ap length s)
classed_some behind x _ h = absurd h

pub token_front : (behind : Bool) (text x rest : List ℕ) (t : Token) → text ≡ x ++ rest
    → IsToken behind x rest t → front behind text ≡ TokenTo t rest
unfolding front
token_front behind text x rest LParen s h = rw (s, h.0, not_begins rest h.1)
token_front behind text x rest RParen s h = rw (s, h)
token_front behind text x rest (Reserved n) s h = rw s (run_token behind x rest (Reserved n) h.2 h.1 h.3 (class_none behind x h.4 ∙ ap Reserved h.0))
token_front behind text x rest t s h = rw s (run_token behind x rest t h.0 (classed_some behind x t h.2) h.1 (class_complete behind x t h.2))

-- FAULTS

char_front : (behind : Bool) (b : ℕ) (rest : List ℕ) → is_space b ≡ false → in_no_run b ≡ true → (b == 40) ≡ false → (b == 41) ≡ false → (b == 59) && begins 59 rest ≡ false → front behind (b ∷ rest) ≡ Wrong LexChar (b ∷ rest)
unfolding front
char_front behind b rest sp run a c m =
    grind (arith, nat_tests, ends_here)

not_closed : (rest : List ℕ) (o : Option (List ℕ)) → behind_comment 0 rest ≡ o → ((x more : List ℕ) → rest ≡ x ++ more → Inside 0 x → ⊥) → o ≡ None
not_closed rest None e h = refl
not_closed rest (Some more) e h = let (x, s, inside) = comment_sound rest 0 more e in absurd (h x more s inside)

none_read : (rest : List ℕ) (o : Option (List ℕ × List ℕ)) → string_at Raw rest ≡ o → ((y c more : List ℕ) → rest ≡ y ++ more → Str y c → ⊥) → o ≡ None
none_read rest None e h = refl
none_read rest (Some (c, more)) e h = let (y, s, str) = string_sound rest Raw [] c more refl e in absurd (h y c more s str)

broken_front : (behind : Bool) (s : List ℕ) (f : Fault) (at : List ℕ) → Broken s f at → front behind s ≡ Wrong f at
unfolding front
broken_front behind s f at (wrong_char b rest sp run a c m) = char_front behind b rest sp run a c m
broken_front behind s f at (open_comment rest h) = rw (not_closed rest (behind_comment 0 rest) refl h)
broken_front behind s f at (wrong_string x rest r h) = rw (front_run behind x (34 ∷ rest) r (λ _. refl), run_stuck x rest r (none_read rest (string_at Raw rest) refl h))

-- CUTS

-- the cut of a text, by the blank or token in front
abbrev pub CutBy : ℕ → List ℕ → Beginning → List Placed → Type 0
CutBy n s Nothing ts = ts ≡ []
CutBy n s (BlankTo rest) ts = Cuts n false rest ts
CutBy n s (TokenTo t rest) ts = (us : List Placed) × (ts ≡ record { token = t; offset = n - length s } ∷ us) × Cuts n (is_open t) rest us
CutBy n s (Wrong f at) ts = ⊥

pub front_nothing : (behind : Bool) → front behind [] ≡ Nothing
unfolding front
front_nothing behind = refl

pub cut_front : {n : ℕ} {behind : Bool} {s : List ℕ} {ts : List Placed} → Cuts n behind s ts → CutBy n s (front behind s) ts
cut_front (done m w) = rw (front_nothing w)
cut_front (blank m w text x rest us e h c) = rw (blank_front w text x rest e h) c
cut_front (token m w text x rest t us e h c) = rw (token_front w text x rest t e h) (us, refl, c)

from_front : (n : ℕ) (behind : Bool) (s : List ℕ) (f : Beginning) (ts : List Placed) → FrontIs behind s f → CutBy n s f ts → Cuts n behind s ts
from_front n behind s Nothing ts r h = rw (r, h) (done n behind)
from_front n behind s (BlankTo rest) ts (x, e, b) h = blank n behind s x rest ts e b h
from_front n behind s (TokenTo t rest) ts (x, e, k) (us, m, h) = rw m (token n behind s x rest t us e k h)
from_front n behind s (Wrong f at) ts r h = absurd h

pub front_cut : {n : ℕ} {behind : Bool} {s : List ℕ} {ts : List Placed} → CutBy n s (front behind s) ts → Cuts n behind s ts
front_cut {n} {behind} {s} {ts} h = from_front n behind s (front behind s) ts (front_right behind s) h

pub one_cut : {n : ℕ} {behind : Bool} {s : List ℕ} {ts us : List Placed} → Cuts n behind s ts → Cuts n behind s us → ts ≡ us
one_cut (done m w) k = sym (rw (front_nothing w) at (cut_front k))
one_cut (blank m w text x rest vs e b c) k = one_cut c (rw (blank_front w text x rest e b) at (cut_front k))
one_cut (token m w text x rest t vs e b c) k =
    let (ws, same, d) = rw (token_front w text x rest t e b) at (cut_front k) in rw (same, one_cut c d)

-- FIRST FAULTS

-- a fault of a text, by the blank or token in front
abbrev pub FailsBy : Beginning → Fault → List ℕ → Type 0
FailsBy Nothing f at = ⊥
FailsBy (BlankTo rest) f at = Fails false rest f at
FailsBy (TokenTo t rest) f at = Fails (is_open t) rest f at
FailsBy (Wrong g q) f at = (f ≡ g) × (at ≡ q)

fails_front : {behind : Bool} {s : List ℕ} {f : Fault} {at : List ℕ} → Fails behind s f at → FailsBy (front behind s) f at
fails_front (at_once w text g q h) = rw (broken_front w text g q h) (refl, refl)
fails_front (behind_blank w text x rest g q e h k) = rw (blank_front w text x rest e h) k
fails_front (behind_token w text x rest t g q e h k) = rw (token_front w text x rest t e h) k

from_failing : (behind : Bool) (s : List ℕ) (o : Beginning) (f : Fault) (at : List ℕ) → FrontIs behind s o → FailsBy o f at → Fails behind s f at
from_failing behind s Nothing f at r h = absurd h
from_failing behind s (BlankTo rest) f at (x, e, b) h = behind_blank behind s x rest f at e b h
from_failing behind s (TokenTo t rest) f at (x, e, k) h = behind_token behind s x rest t f at e k h
from_failing behind s (Wrong g q) f at r (same, place) = rw (same, place) (at_once behind s g q r)

pub front_fails : {behind : Bool} {s : List ℕ} {f : Fault} {at : List ℕ} → FailsBy (front behind s) f at → Fails behind s f at
front_fails {behind} {s} {f} {at} h = from_failing behind s (front behind s) f at (front_right behind s) h

pub one_failure : {behind : Bool} {s : List ℕ} {f g : Fault} {at q : List ℕ} → Fails behind s f at → Fails behind s g q → (f ≡ g) × (at ≡ q)
one_failure (at_once w text a b h) k = let (same, place) = rw (broken_front w text a b h) at (fails_front k) in (sym same, sym place)
one_failure (behind_blank w text x rest a b e h c) k = one_failure c (rw (blank_front w text x rest e h) at (fails_front k))
one_failure (behind_token w text x rest t a b e h c) k = one_failure c (rw (token_front w text x rest t e h) at (fails_front k))

-- a text that fails has no cut
pub no_cut : {n : ℕ} {behind : Bool} {s : List ℕ} {f : Fault} {at : List ℕ} {ts : List Placed} → Fails behind s f at → Cuts n behind s ts → ⊥
no_cut (at_once w text a b h) k = rw (broken_front w text a b h) at (cut_front k)
no_cut (behind_blank w text x rest a b e h c) k = no_cut c (rw (blank_front w text x rest e h) at (cut_front k))
no_cut (behind_token w text x rest t a b e h c) k = let (us, same, d) = rw (token_front w text x rest t e h) at (cut_front k) in no_cut c d

-- Laws: the text of tokens is cut into these tokens.
use Rattle.std.proofs.Common.{ap, subst, sym, ◌∙◌, arith, append_assoc, append-nil, ◌≡◌, ℕ, zero, suc, ◌-◌, Bool, true, false, not, ◌&&◌, ◌||◌, ◌==◌, List, [], ◌∷◌, ◌++◌, length, refl}
use Rattle.wat_types.specs.Prelude.{and_parts, nat_tests, between}
use Rattle.wat_print.specs.Prelude.{is_idchar, is_integer, read, Run, IsToken, Cuts, done, blank, token, Token, Placed, LParen, RParen, Keyword, Id, Annotation, Integer, String, Reserved, tokens_of, is_open, LayoutPart, line, blanks, lay, tokens_in, Writes, all_are, quoted, Page, blank_page, is_keyword, is_name, is_printable}
use Rattle.wat_lexer.specs.Bytes.{is_space}
use Rattle.wat_lexer.specs.Cut.{Begins, in_no_run, Classed, space}
use Rattle.wat_print.specs.Layout.{one}
use Rattle.wat_print.specs.Text.{token_text, gap}
use Rattle.wat_print.specs.Laws.Quoted.{quoted_is, idchars_are, idchars_run, string_run, name_is}
use Rattle.wat_lexer.specs.Laws.Bytes.{idchar_no_mark}

-- ---- the text from the left

-- The text of the pieces in order. The flags: whether lines may be broken, and whether the first
-- piece follows without a blank.
abbrev pub laid : Bool → Bool → List LayoutPart → List ℕ
laid lines tight [] = []
laid lines tight (one t ∷ r) = gap tight t ++ (token_text t ++ laid lines (is_open t) r)
laid true false (line n ∷ r) = 10 ∷ (blanks n ++ laid true true r)
laid true true (line n ∷ r) = laid true true r
laid false tight (line n ∷ r) = laid false tight r

abbrev page_of : List ℕ → Bool → Bool → Page
page_of x lines tight = record { bytes = x; tight = tight; lines = lines }

lay_laid : (ps : List LayoutPart) (x : List ℕ) (lines tight : Bool)
    → (lay (page_of x lines tight) ps).bytes ≡ x ++ laid lines tight ps
lay_laid [] x lines tight = sym (append-nil x)
lay_laid (one t ∷ r) x lines tight =
    lay_laid r (x ++ (gap tight t ++ token_text t)) lines (is_open t) ∙ simp append_assoc
lay_laid (line n ∷ r) x true true = lay_laid r x true true
lay_laid (line n ∷ r) x true false =
    lay_laid r (x ++ (10 ∷ blanks n)) true true ∙ append_assoc x (10 ∷ blanks n) (laid true true r)
lay_laid (line n ∷ r) x false tight = lay_laid r x false tight

-- ---- what may follow

abbrev pub Printable : Bool → Token → Type 0
Printable behind LParen = Unit {0}
Printable behind RParen = Unit {0}
Printable behind (Annotation n) = (behind ≡ true) × (is_name n ≡ true)
Printable behind t = is_printable t ≡ true

abbrev pub AllPrintable : Bool → List Token → Type 0
AllPrintable behind [] = Unit {0}
AllPrintable behind (t ∷ r) = Printable behind t × AllPrintable (is_open t) r

-- after a token other than `(`
run_ends : (lines : Bool) (r : List LayoutPart) → Begins in_no_run (laid lines false r)
run_ends lines [] = tt
run_ends true (line n ∷ r) = refl
run_ends false (line n ∷ r) = run_ends false r
run_ends lines (one RParen ∷ r) = refl
run_ends lines (one _ ∷ r) = refl

-- the first byte isn't `;`
abbrev pub no_semicolon : List ℕ → Type 0
no_semicolon x = Begins (λ b. not (b == 59)) x

word_plain : (k r : List ℕ) → is_keyword k ≡ true → no_semicolon (k ++ r)
word_plain [] r h = absurd cc
word_plain (b ∷ k) r h =
    let p = and_parts (between 97 122 b) (all_are is_idchar (b ∷ k)) h in
    grind (arith, nat_tests, p.0)

no_integer : is_integer [] ≡ true → ⊥
unfolding read
no_integer h = cc

integer_plain : (k r : List ℕ) → all_are is_idchar k && is_integer k ≡ true → no_semicolon (k ++ r)
integer_plain [] r h = absurd (no_integer h)
integer_plain (b ∷ k) r h =
    let p = and_parts (all_are is_idchar (b ∷ k)) (is_integer (b ∷ k)) h in
    let q = and_parts (is_idchar b) (all_are is_idchar k) p.0 in
    idchar_no_mark b q.0

pub printable_plain : (behind : Bool) (t : Token) (r : List ℕ) → Printable behind t
    → no_semicolon (token_text t ++ r)
printable_plain behind LParen r h = refl
printable_plain behind RParen r h = refl
printable_plain behind (Keyword k) r h = word_plain k r h
printable_plain behind (Id n) r h = refl
printable_plain behind (Annotation n) r h = refl
printable_plain behind (Integer k) r h = integer_plain k r h
printable_plain behind (String s) r h = refl
printable_plain behind (Reserved k) r h = absurd cc

-- after `(`
open_ends : (lines : Bool) (r : List LayoutPart) → AllPrintable true (tokens_in r)
    → no_semicolon (laid lines true r)
open_ends lines [] h = tt
open_ends true (line n ∷ r) h = open_ends true r h
open_ends false (line n ∷ r) h = open_ends false r h
open_ends lines (one t ∷ r) h = printable_plain true t (laid lines (is_open t) r) h.0

-- ---- one token

abbrev pub Ends : Token → List ℕ → Type 0
Ends LParen x = no_semicolon x
Ends RParen x = Unit {0}
Ends _ x = Begins in_no_run x

piece_ends : (lines : Bool) (t : Token) (r : List LayoutPart)
    → AllPrintable (is_open t) (tokens_in r)
    → Ends t (laid lines (is_open t) r)
piece_ends lines LParen r f = open_ends lines r f
piece_ends lines RParen r f = tt
piece_ends lines _ r f = run_ends lines r

word_is : (behind : Bool) (k : List ℕ) → is_keyword k ≡ true → Run k × Classed behind k (Keyword k)
word_is behind [] h = absurd cc
word_is behind (b ∷ k) h =
    let p = and_parts (between 97 122 b) (all_are is_idchar (b ∷ k)) h in
    let i = idchars_are (b ∷ k) p.1 in
    (idchars_run (b ∷ k) i, (refl, i, b, k, refl, p.0))

token_is : (behind : Bool) (t : Token) (x : List ℕ) → Printable behind t → Ends t x
    → IsToken behind (token_text t) x t
token_is behind LParen x h e = (refl, e)
token_is behind RParen x h e = refl
token_is behind (Keyword k) x h e = let w = word_is behind k h in (w.0, e, w.1)
token_is behind (Id n) x h e = let w = name_is 36 n refl h in (w.0, e, w.1)
token_is behind (Annotation n) x h e = let w = name_is 64 n refl h.1 in (w.0, e, (h.0, w.1))
token_is behind (Integer k) x h e =
    let p = and_parts (all_are is_idchar k) (is_integer k) h in
    let i = idchars_are k p.0 in
    (idchars_run k i, e, (refl, i, p.1))
token_is behind (String s) x h e =
    let q = quoted_is s h in
    (string_run (quoted s) s q, e, (quoted s, refl, q))
token_is behind (Reserved k) x h e = absurd cc

-- ---- all tokens

abbrev pub CutInto : ℕ → Bool → List ℕ → List Token → Type 0
CutInto n behind x ts = (ps : List Placed) × Cuts n behind x ps × (tokens_of ps ≡ ts)

cut_token : (n : ℕ) (behind : Bool) (t : Token) (x : List ℕ) (us : List Token)
    → IsToken behind (token_text t) x t → CutInto n (is_open t) x us
    → CutInto n behind (token_text t ++ x) (t ∷ us)
cut_token n behind t x us h c =
    let y = token_text t ++ x in (
      record { token = t; offset = n - length y } ∷ c.0,
      token n behind y (token_text t) x t c.0 refl h c.1,
      ap (λ (l : List Token). t ∷ l) c.2,
    )

space_is : (b : ℕ) → (b == 32) || (b == 10) ≡ true → is_space b ≡ true
space_is b h = grind (arith, nat_tests)

cut_space : (n b : ℕ) (behind : Bool) (x : List ℕ) (us : List Token)
    → (b == 32) || (b == 10) ≡ true → CutInto n false x us → CutInto n behind (b ∷ x) us
cut_space n b behind x us h c =
    (c.0, blank n behind (b ∷ x) (b ∷ []) x c.0 refl (space b x (space_is b h)) c.1, c.2)

cut_blanks : (n k : ℕ) (x : List ℕ) (us : List Token) → CutInto n false x us
    → CutInto n false (blanks k ++ x) us
cut_blanks n zero x us c = c
cut_blanks n (suc k) x us c = cut_space n 32 false (blanks k ++ x) us refl (cut_blanks n k x us c)

-- the space before a token, if a space is needed
cut_gap : (n : ℕ) (behind tight : Bool) (t : Token) (y : List ℕ) (us : List Token)
    → (behind ≡ true → tight ≡ true) → CutInto n behind y us
    → CutInto n behind (gap tight t ++ y) us
cut_gap n behind true t y us h c = c
cut_gap n true false t y us h c = absurd (let e = h refl in cc)
cut_gap n false false LParen y us h c = cut_space n 32 false y us refl c
cut_gap n false false RParen y us h c = c
cut_gap n false false _ y us h c = cut_space n 32 false y us refl c

cut_laid : (n : ℕ) (lines behind tight : Bool) (ps : List LayoutPart)
    → AllPrintable behind (tokens_in ps)
    → (behind ≡ true → tight ≡ true) → CutInto n behind (laid lines tight ps) (tokens_in ps)
cut_laid n lines behind tight [] f h = ([], done n behind, refl)
cut_laid n lines behind tight (one t ∷ r) f h =
    let x = laid lines (is_open t) r in
    let c = cut_laid n lines (is_open t) (is_open t) r f.1 (λ e. e) in
    let k = token_is behind t x f.0 (piece_ends lines t r f.1) in
    cut_gap n behind tight t (token_text t ++ x) (t ∷ tokens_in r) h
    (cut_token n behind t x (tokens_in r) k c)
cut_laid n true behind true (line k ∷ r) f h = cut_laid n true behind true r f h
cut_laid n true true false (line k ∷ r) f h = absurd (let e = h refl in cc)
cut_laid n true false false (line k ∷ r) f h =
    cut_space n 10 false (blanks k ++ laid true true r) (tokens_in r) refl
    (cut_blanks n k (laid true true r) (tokens_in r) (cut_laid n true false true r f (λ e. refl)))
cut_laid n false behind tight (line k ∷ r) f h = cut_laid n false behind tight r f h

pub page_cuts : (n : ℕ) (ts : List Token) (lines : Bool) (q : Page) → AllPrintable false ts
    → Writes ts (blank_page lines) q → CutInto n false q.bytes ts
page_cuts n ts lines q f w =
    let x : q.bytes ≡ laid lines true w.pieces =
    ap (λ (p : Page). p.bytes) w.page ∙ lay_laid w.pieces [] lines true in
    let g = subst (λ (l : List Token). AllPrintable false l) (sym w.tokens) f in
    subst (λ (l : List Token). CutInto n false q.bytes l) w.tokens
    (subst (λ (y : List ℕ). CutInto n false y (tokens_in w.pieces)) (sym x)
    (cut_laid n lines false true w.pieces g (λ e. refl)))

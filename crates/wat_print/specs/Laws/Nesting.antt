-- Laws of well-formed tokens: each token is at an allowed position, the groups of annotations are
-- closed, and all tokens are visible if the standard annotations are known.
use Rattle.std.proofs.Common.{◌≡◌, ℕ, zero, suc, ◌+◌, ◌-◌, Bool, true, false, List, [], ◌∷◌, ◌++◌, length, Some, None, refl, ap, subst, sym, ◌∙◌, arith, append_assoc, append-nil}
use Rattle.wat_print.specs.Prelude.{IsCut, is_standard, visible, visible_tokens, Token, Placed, LParen, RParen, Keyword, Id, Annotation, Integer, String, Reserved, tokens_of, is_open, is_printable, WellFormed, nothing, noted, Writes, Page, blank_page}
use Rattle.wat_lexer.specs.Cut.{Closed}
use Rattle.wat_lexer.specs.Sight.{begins_annotation_group, behind_group}
use Rattle.wat_print.specs.WellFormed.{token, group}
use Rattle.wat_print.specs.Laws.Cutting.{Printable, AllPrintable, page_cuts}

-- ---- each token is at an allowed position

-- a token that isn't a parenthesis or an annotation
not_open : (t : Token) → is_printable t ≡ true → is_open t ≡ false
not_open LParen h = absurd cc
not_open _ h = refl

fits : (behind : Bool) (t : Token) → is_printable t ≡ true → Printable behind t
fits behind LParen h = tt
fits behind RParen h = tt
fits behind (Annotation n) h = absurd cc
fits behind (Keyword k) h = h
fits behind (Id k) h = h
fits behind (Integer k) h = h
fits behind (String k) h = h
fits behind (Reserved k) h = h

-- a token that may follow any token may follow `(`
printable_more : (behind : Bool) (t : Token) → Printable false t → Printable behind t
printable_more behind LParen h = tt
printable_more behind RParen h = tt
printable_more behind (Annotation n) h = absurd (let e = h.0 in cc)
printable_more behind (Keyword k) h = h
printable_more behind (Id k) h = h
printable_more behind (Integer k) h = h
printable_more behind (String k) h = h
printable_more behind (Reserved k) h = h

all_more : (behind : Bool) (r : List Token) → AllPrintable false r → AllPrintable behind r
all_more behind [] h = tt
all_more behind (t ∷ r) h = (printable_more behind t h.0, h.1)

well_formed_printable : (ts s : List Token) → WellFormed ts → AllPrintable false s
    → AllPrintable false (ts ++ s)
well_formed_printable ts s nothing f = f
well_formed_printable ts s (token t r h n) f =
    (fits false t h, all_more (is_open t) (r ++ s) (well_formed_printable r s n f))
well_formed_printable ts s (group a r n m) f = (
  tt,
  all_more true ((a ++ RParen ∷ r) ++ s) (subst (λ (l : List Token). AllPrintable false l)
      (sym (append_assoc a (RParen ∷ r) s))
      (well_formed_printable a (RParen ∷ (r ++ s)) n (tt, well_formed_printable r s m f))),
)
well_formed_printable ts s (noted k a r h e n m) f = (
  tt,
  (
    (refl, h),
    subst (λ (l : List Token). AllPrintable false l) (sym (append_assoc a (RParen ∷ r) s))
        (well_formed_printable a (RParen ∷ (r ++ s)) n (tt, well_formed_printable r s m f)),
  ),
)

-- ---- groups are closed

plain_deep : (t : Token) (depth : ℕ) (r : List Token) → is_printable t ≡ true
    → behind_group depth (t ∷ r) ≡ behind_group depth r
unfolding behind_group
plain_deep LParen depth r h = absurd cc
plain_deep RParen depth r h = absurd cc
plain_deep (Annotation n) depth r h = absurd cc
plain_deep _ depth r h = refl

shut_suc : (depth : ℕ) (r : List Token)
    → behind_group (suc depth) (RParen ∷ r) ≡ behind_group depth r
unfolding behind_group
shut_suc depth r = let e : suc depth - 1 ≡ depth = omega arith in rw e refl

shut_deep : (depth : ℕ) (r : List Token) → behind_group (depth + 1) (RParen ∷ r)
    ≡ behind_group depth r
shut_deep depth r =
    let e : suc depth ≡ depth + 1 = omega arith in
    subst (λ (d : ℕ). behind_group d (RParen ∷ r) ≡ behind_group depth r) e (shut_suc depth r)

open_deep : (depth : ℕ) (r : List Token) → behind_group depth (LParen ∷ r)
    ≡ behind_group (depth + 1) r
unfolding behind_group
open_deep depth r = refl

note_deep : (n : List ℕ) (depth : ℕ) (r : List Token)
    → behind_group depth (Annotation n ∷ r) ≡ behind_group depth r
unfolding behind_group
note_deep n depth r = refl

well_formed_deep : (ts s : List Token) (depth : ℕ) → WellFormed ts
    → behind_group depth (ts ++ s) ≡ behind_group depth s
well_formed_deep ts s depth nothing = refl
well_formed_deep ts s depth (token t r h n) =
    plain_deep t depth (r ++ s) h ∙ well_formed_deep r s depth n
well_formed_deep ts s depth (group a r n m) =
    open_deep depth ((a ++ RParen ∷ r) ++ s) ∙ ap (λ (l : List Token). behind_group (depth + 1) l)
    (append_assoc a (RParen ∷ r) s)
    ∙ well_formed_deep a (RParen ∷ (r ++ s)) (depth + 1) n ∙ shut_deep depth (r ++ s)
    ∙ well_formed_deep r s depth m
well_formed_deep ts s depth (noted k a r h e n m) =
    open_deep depth (Annotation k ∷ ((a ++ RParen ∷ r) ++ s))
    ∙ note_deep k (depth + 1) ((a ++ RParen ∷ r) ++ s)
    ∙ ap (λ (l : List Token). behind_group (depth + 1) l) (append_assoc a (RParen ∷ r) s)
    ∙ well_formed_deep a (RParen ∷ (r ++ s)) (depth + 1) n ∙ shut_deep depth (r ++ s)
    ∙ well_formed_deep r s depth m

-- if the tokens begin with `(` and an annotation, their group is closed
abbrev pub ShutHere : List Token → Type 0
ShutHere (LParen ∷ Annotation n ∷ r) = behind_group 0 r ≡ None → ⊥
ShutHere _ = Unit {0}

abbrev pub AllShut : List Token → Type 0
AllShut [] = Unit {0}
AllShut (t ∷ r) = ShutHere (t ∷ r) × AllShut r

all_closed : (ts : List Token) → AllShut ts → Closed ts
all_closed [] a zero u = absurd (let e = u.2 in cc)
all_closed [] a (suc i) u = absurd (let e = u.2 in cc)
all_closed (t ∷ r) a zero u = subst ShutHere u.2 a.0 u.3
all_closed (t ∷ r) a (suc i) u = all_closed r a.1 i u

plain_shut : (t : Token) (r : List Token) → is_printable t ≡ true → ShutHere (t ∷ r)
plain_shut LParen r h = absurd cc
plain_shut _ r h = tt

inner_shut : (a s : List Token) → WellFormed a → ShutHere (LParen ∷ (a ++ RParen ∷ s))
inner_shut a s nothing = tt
inner_shut a s (token (Annotation n) r h m) = absurd cc
inner_shut a s (token _ r h m) = tt
inner_shut a s (group b r n m) = tt
inner_shut a s (noted k b r h e n m) = tt

shut_zero : (r : List Token) → behind_group 0 (RParen ∷ r) ≡ Some r
unfolding behind_group
shut_zero r = refl

well_formed_shut : (ts s : List Token) → WellFormed ts → AllShut s → AllShut (ts ++ s)
well_formed_shut ts s nothing f = f
well_formed_shut ts s (token t r h n) f = (plain_shut t (r ++ s) h, well_formed_shut r s n f)
well_formed_shut ts s (group a r n m) f =
    let inner : AllShut (RParen ∷ (r ++ s)) = (tt, well_formed_shut r s m f) in
    subst (λ (l : List Token). AllShut (LParen ∷ l)) (sym (append_assoc a (RParen ∷ r) s))
    (inner_shut a (r ++ s) n, well_formed_shut a (RParen ∷ (r ++ s)) n inner)
well_formed_shut ts s (noted k a r h e n m) f =
    let inner : AllShut (RParen ∷ (r ++ s)) = (tt, well_formed_shut r s m f) in
    let found : behind_group 0 (a ++ RParen ∷ (r ++ s))
    ≡ Some (r ++ s) = well_formed_deep a (RParen ∷ (r ++ s)) 0 n ∙ shut_zero (r ++ s) in
    subst (λ (l : List Token). AllShut (LParen ∷ (Annotation k ∷ l)))
    (sym (append_assoc a (RParen ∷ r) s)) (
      (λ (x : behind_group 0 (a ++ RParen ∷ (r ++ s)) ≡ None). (absurd cc)),
      (tt, well_formed_shut a (RParen ∷ (r ++ s)) n inner),
    )

-- ---- all tokens are visible

plain_seen : (t : Token) (r : List Token) → is_printable t ≡ true
    → visible true None (t ∷ r) ≡ t ∷ visible true None r
unfolding visible
plain_seen LParen r h = absurd cc
plain_seen _ r h = refl

shut_seen : (r : List Token) → visible true None (RParen ∷ r) ≡ RParen ∷ visible true None r
unfolding visible
shut_seen r = refl

note_seen : (k : List ℕ) (r : List Token) → visible true None (Annotation k ∷ r)
    ≡ Annotation k ∷ visible true None r
unfolding visible
note_seen k r = refl

inner_plain : (a s : List Token) → WellFormed a
    → begins_annotation_group (LParen ∷ (a ++ RParen ∷ s))
    ≡ false
inner_plain a s nothing = refl
inner_plain a s (token (Annotation n) r h m) = absurd cc
inner_plain a s (token _ r h m) = refl
inner_plain a s (group b r n m) = refl
inner_plain a s (noted k b r h e n m) = refl

open_seen : (r : List Token) → begins_annotation_group (LParen ∷ r) ≡ false
    → visible true None (LParen ∷ r) ≡ LParen ∷ visible true None r
unfolding visible
open_seen r h = rw h refl

noted_seen : (k : List ℕ) (r : List Token) → is_standard k ≡ true
    → visible true None (LParen ∷ (Annotation k ∷ r))
    ≡ LParen ∷ visible true None (Annotation k ∷ r)
unfolding visible
noted_seen k r h = rw h refl

well_formed_seen : (ts s : List Token) → WellFormed ts
    → visible true None (ts ++ s) ≡ ts ++ visible true None s
well_formed_seen ts s nothing = refl
well_formed_seen ts s (token t r h n) = plain_seen t (r ++ s) h
    ∙ ap (λ (l : List Token). t ∷ l) (well_formed_seen r s n)
well_formed_seen ts s (group a r n m) =
    rw (append_assoc a (RParen ∷ r) s) (
    open_seen (a ++ RParen ∷ (r ++ s)) (inner_plain a (r ++ s) n)
    ∙ ap (λ (l : List Token). LParen ∷ l) (well_formed_seen a (RParen ∷ (r ++ s)) n
    ∙ ap (λ (l : List Token). a ++ l) (shut_seen (r ++ s)
    ∙ ap (λ (l : List Token). RParen ∷ l) (well_formed_seen r s m))
    ∙ sym (append_assoc a (RParen ∷ r) (visible true None s))))
well_formed_seen ts s (noted k a r h e n m) =
    rw (append_assoc a (RParen ∷ r) s) (
    noted_seen k (a ++ RParen ∷ (r ++ s)) e
    ∙ ap (λ (l : List Token). LParen ∷ l) (note_seen k (a ++ RParen ∷ (r ++ s))
    ∙ ap (λ (l : List Token). Annotation k ∷ l) (well_formed_seen a (RParen ∷ (r ++ s)) n
    ∙ ap (λ (l : List Token). a ++ l) (shut_seen (r ++ s)
    ∙ ap (λ (l : List Token). RParen ∷ l) (well_formed_seen r s m))
    ∙ sym (append_assoc a (RParen ∷ r) (visible true None s)))))

-- ---- together

seen_end : visible true None [] ≡ []
unfolding visible
seen_end = refl

pub well_formed_visible : (ts : List Token) → WellFormed ts → visible_tokens true ts ≡ ts
unfolding visible_tokens
well_formed_visible ts n =
    ap (λ (l : List Token). visible true None l) (sym (append-nil ts)) ∙ well_formed_seen ts [] n
    ∙ ap (λ (l : List Token). ts ++ l) seen_end ∙ append-nil ts

pub well_formed_closed : (ts : List Token) → WellFormed ts → Closed ts
well_formed_closed ts n =
    all_closed ts
    (subst (λ (l : List Token). AllShut l) (append-nil ts) (well_formed_shut ts [] n tt))

-- each layout of well-formed tokens is cut into these tokens
pub well_formed_cut : (ts : List Token) (lines : Bool) (q : Page) → WellFormed ts
    → Writes ts (blank_page lines) q
    → (ps : List Placed) × IsCut q.bytes ps × (tokens_of ps ≡ ts)
well_formed_cut ts lines q n w =
    let f = subst (λ (l : List Token). AllPrintable false l) (append-nil ts)
    (well_formed_printable ts [] n tt) in
    let c = page_cuts (length q.bytes) ts lines q f w in
    (c.0, (c.1, subst (λ (l : List Token). Closed l) (sym c.2) (well_formed_closed ts n)), c.2)

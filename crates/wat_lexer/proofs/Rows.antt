-- Example texts and their tokens, computed with the scans.
use Rattle.std.proofs.Common.{◌≡◌, ℕ, zero, suc, ◌-◌, ◌<◌, List, [], ◌∷◌, length, drop, refl, sym, arith, Bool, true, false, Option, Some, None, option_map, is_some, ◌&&◌, ◌||◌, not, codes}
use Rattle.std.specs.Str.{is_utf8}
use Rattle.std.proofs.lemmas.List.Elements.{All-from_recursion}
use Rattle.std.proofs.lemmas.Str.Ascii.{IsAscii-from_all}
use Rattle.wat_lexer.specs.Laws.Prelude.{and_parts, AllByRecursion, IsUtf8-from_ascii, is_utf8-from_IsUtf8, Token, Placed, tokens_of, is_open, Cuts, Closed, Unclosed, IsCut, cutting, closing, read, Beginning, Nothing, BlankTo, TokenTo, Wrong, front, behind_comment, behind_run, behind_line, string_at, step, all_idchars, string_of, name_behind, class, begins_annotation_group, behind_group, visible, visible_tokens, hidden_count_at, hidden_count, front_cut, front_fails}
use Rattle.wat_lexer.specs.Laws.Fronts.{CutBy}
use lib.Utf8.{encode}
use Rattle.wat_lexer.specs.Rows.{Comments, Strings, QuotedNames, Spoiled, Integers, Values, HiddenGroups, Faults, UnclosedGroup}

-- CUTS

-- the cut of a text, by the blank or token in front and the cut of the rest
abbrev cut_by : (Bool → List ℕ → Option (List Placed)) → ℕ → List ℕ → Beginning → Option (List Placed)
cut_by go n s Nothing = Some []
cut_by go n s (BlankTo rest) = go false rest
cut_by go n s (TokenTo t rest) = option_map (λ us. record { token = t; offset = n - length s } ∷ us) (go (is_open t) rest)
cut_by go n s (Wrong f q) = None

-- the cut of a text with fewer than this many blanks and tokens
abbrev cut_in : ℕ → ℕ → Bool → List ℕ → Option (List Placed)
cut_in zero n behind s = None
cut_in (suc k) n behind s = cut_by (cut_in k n) n s (front behind s)

one_more : (o : Option (List Placed)) (p : Placed) (ts : List Placed) → option_map (λ us. p ∷ us) o ≡ Some ts → (us : List Placed) × (ts ≡ p ∷ us) × (o ≡ Some us)
one_more None p ts e = cc
one_more (Some us) p ts e = let same : p ∷ us ≡ ts = cc in (us, sym same, refl)

by_front : (go : Bool → List ℕ → Option (List Placed)) (n : ℕ) (s : List ℕ) → ((b : Bool) (r : List ℕ) (us : List Placed) → go b r ≡ Some us → Cuts n b r us) → (f : Beginning) (ts : List Placed) → cut_by go n s f ≡ Some ts → CutBy n s f ts
by_front go n s behind Nothing ts e = let none : [] ≡ ts = cc in sym none
by_front go n s behind (BlankTo rest) ts e = behind false rest ts e
by_front go n s behind (TokenTo t rest) ts e =
    let (us, same, more) = one_more (go (is_open t) rest) (record { token = t; offset = n - length s }) ts e in (us, same, behind (is_open t) rest us more)
by_front go n s behind (Wrong f q) ts e = cc

cuts_in : (k n : ℕ) (behind : Bool) (s : List ℕ) (ts : List Placed) → cut_in k n behind s ≡ Some ts → Cuts n behind s ts
cuts_in zero n behind s ts e = cc
cuts_in (suc k) n behind s ts e = front_cut (by_front (cut_in k n) n s (λ b r us. cuts_in k n b r us) (front behind s) ts e)

-- GROUPS

-- the group in front is closed, if it begins with an annotation
abbrev closes_here : List Token → Bool
closes_here ts = not (begins_annotation_group ts) || is_some (behind_group 0 (drop 2 ts))

here : (ts : List Token) → closes_here ts ≡ true → Unclosed ts 0 → ⊥
here ts e (n, r, is, none) =
    let closed : is_some (behind_group 0 r) ≡ true = rw is at e in
    let f : false ≡ true = rw none at closed in cc

-- the groups at the first k places are closed
abbrev close_to : ℕ → List Token → Bool
close_to zero ts = true
close_to (suc k) ts = closes_here ts && close_to k (drop 1 ts)

closed_to : (k : ℕ) (ts : List Token) → close_to k ts ≡ true → (i : ℕ) → i < k → Unclosed ts i → ⊥
closed_to zero ts e i lt u = absurd (omega arith)
closed_to (suc k) ts e zero lt u = here ts (and_parts (closes_here ts) (close_to k (drop 1 ts)) e).0 u
closed_to (suc k) [] e (suc i) lt (n, r, is, none) = cc
closed_to (suc k) (x ∷ ts) e (suc i) lt u = closed_to k ts (and_parts (closes_here (x ∷ ts)) (close_to k ts) e).1 i (omega arith) u

-- all groups are closed
abbrev all_close : List Token → Bool
all_close [] = true
all_close (x ∷ ts) = closes_here (x ∷ ts) && all_close ts

all_closed : (ts : List Token) → all_close ts ≡ true → Closed ts
all_closed [] e zero (n, r, is, none) = cc
all_closed [] e (suc i) (n, r, is, none) = cc
all_closed (x ∷ ts) e zero u = here (x ∷ ts) (and_parts (closes_here (x ∷ ts)) (all_close ts) e).0 u
all_closed (x ∷ ts) e (suc i) u = all_closed ts (and_parts (closes_here (x ∷ ts)) (all_close ts) e).1 i u

-- TEXTS

is_cut : (text : List ℕ) (ts : List Placed) → cut_in 100 (length text) false text ≡ Some ts → all_close (tokens_of ts) ≡ true → IsCut text ts
is_cut text ts e f = (cuts_in 100 (length text) false text ts e, all_closed (tokens_of ts) f)

pub comments : Comments
unfolding front behind_comment behind_line behind_run all_idchars class
comments = is_cut _ _ refl refl

pub strings : Strings
unfolding front behind_run string_at step all_idchars string_of class encode
strings = is_cut _ _ refl refl

ascii : (x : List ℕ) → AllByRecursion (λ b. b < 128) x → is_utf8 x ≡ true
ascii x all = is_utf8-from_IsUtf8 x (IsUtf8-from_ascii x (IsAscii-from_all x (All-from_recursion (λ b. b < 128) x all)))

pub quoted_names : QuotedNames
unfolding front behind_run string_at step all_idchars string_of name_behind class behind_group
quoted_names =
    let a_b = ascii (codes "a b") (omega arith, (omega arith, (omega arith, tt))) in
    let n = ascii (codes "n") (omega arith, tt) in
    is_cut _ _ (rw (a_b, n) refl) refl

pub spoiled : Spoiled
unfolding front behind_run string_at step all_idchars string_of name_behind class read
spoiled = is_cut _ _ refl refl

pub integers : Integers
unfolding front behind_run all_idchars class read
integers = is_cut _ _ refl refl

pub values : Values
unfolding read
values = (refl, refl, refl, refl, refl, refl, refl)

pub hidden_groups : HiddenGroups
unfolding visible visible_tokens hidden_count_at hidden_count
hidden_groups = (refl, refl, refl, refl, refl, refl, refl, refl)

pub faults : Faults
unfolding front behind_comment behind_run string_at step all_idchars class
faults = (
  cutting _ _ _ (front_fails (front_fails (refl, refl))),
  cutting _ _ _ (front_fails (front_fails (front_fails (refl, refl)))),
  cutting _ _ _ (front_fails (front_fails (front_fails (refl, refl)))),
)

pub unclosed_group : UnclosedGroup
unfolding front behind_run all_idchars name_behind class behind_group
unclosed_group = closing _ _ 7 (cuts_in 100 14 false _ _ refl) (5, _, refl, refl, (_, _, refl, refl), closed_to 5 _ refl)

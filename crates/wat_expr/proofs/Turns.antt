-- Turns: each turn keeps the remaining work; if a turn is refused, the state is stuck.
use Rattle.std.proofs.Common.{◌≡◌, ◌||◌, ◌==◌, ℕ, Bool, true, false, refl, subst, inl, inr, ◌<◌, List, [], ◌∷◌, length, Option, Some, None, sym, suc, ◌≤◌, Result, Ok, Err, MatchResult, arith, codes}
use Rattle.wat_expr.specs.Prelude.{eqb-true, InstructionModel, is_block, is_if, is_br_if, end_instr, else_instr, by_test, sort, sort_of, IsBlock, IsIf, IsOther, is_branch, Sort, reads, keyword, hint_name, Items, Nil, Plain, Folded, Block, IfThen, IfElse, Hinted, BeginsWithBranch, Token, LParen, RParen, String, Stops, word_front, reads_shorter, reads_balanced, Flat, push, OpenGroup, InFolded, InBlock, InIf, AfterThen, AfterElse, InArm, heads_in, TalliedFlat, item_more, noted, Fits, suits, IsOpen, TakesPlain, Finishes, Tallies, with_tallies, LoopState, state_with, Balanced, Turn, TurnAnswers, Stuck, Error, Memory, ends, if_branch}
use Rattle.wat_expr.specs.Items.{Only}
use Rattle.wat_expr.specs.Progress.{After, Open, at_closing, arm, after_open_group, risen}
use Rattle.wat_expr.proofs.Fronts.{reads_one, stops_at, stops_no_word, stops_no_group, no_paren, same_group, one_sort, no_hint_word}

-- a folded `br_if` can follow a hint
pub folded_branch : (i : InstructionModel) → is_br_if i.row ≡ true → is_branch i ≡ true
folded_branch i e = rw e refl

other_either : (a b c : Bool) → sort_of b c ≡ IsOther → (a || c) ≡ true → a ≡ true
other_either true b c e h = refl
other_either false true c e h = absurd cc
other_either false false true e h = absurd cc
other_either false false false e h = absurd cc

-- no other folded instruction can follow a hint
pub branch_folded : (i : InstructionModel) → sort i ≡ IsOther → is_branch i ≡ true → is_br_if i.row ≡ true
branch_folded i e h = other_either (is_br_if i.row) (is_block i.row) (is_if i.row) e h

-- if the row n opens a block, the equal row m opens a block
same_sort : (n m : ℕ) → (n == m) ≡ true → sort_of (is_block n) (is_if n) ≡ IsBlock → sort_of (is_block m) (is_if m) ≡ IsBlock
same_sort n m e s = subst (λ (k : ℕ). sort_of (is_block k) (is_if k) ≡ IsBlock) (eqb-true n m e) s

-- no block can follow a hint
pub branch_block : (i : InstructionModel) → sort i ≡ IsBlock → is_branch i ≡ true → ⊥
branch_block i s h =
    by_test (is_br_if i.row)
    (λ e. (let k : IsOther ≡ IsBlock = same_sort i.row _ e s in cc))
    (λ e. (let f : is_if i.row ≡ true = rw e at h in let k : IsIf ≡ IsBlock = same_sort i.row _ f s in cc))

pub any_items : (xs : Items) → Only (Unit {0}) (Unit {0}) xs
any_items Nil = tt
any_items (Plain i xs) = (tt, any_items xs)
any_items (Folded i ys xs) = (tt, any_items xs)
any_items (Block i ys xs) = (tt, any_items xs)
any_items (IfThen i ops th xs) = (tt, any_items xs)
any_items (IfElse i ops th el xs) = (tt, any_items xs)
any_items (Hinted v xs) = (tt, any_items xs)

-- the remaining items and the condition after them, with the open groups s
abbrev pub Rest : TalliedFlat → List Token → List OpenGroup → Option ℕ → After
Rest o r s p = Open (TakesPlain s) (IsOpen s) (after_open_group o r s) (length s) (heads_in s) p

-- the tallied output with the new output g, and the open groups s
abbrev pub goes : List OpenGroup → Flat → TalliedFlat → TalliedFlat
goes s g f = noted (length s) (heads_in s) (record { out = g; items = f.items; peak = f.peak; held = f.held })

-- the open group of a group, and the output after it opens
abbrev pub inside : Sort → InstructionModel → Option ℕ → OpenGroup
inside IsOther i p = InFolded i p
inside IsBlock i p = InBlock
inside IsIf i p = InIf i p

abbrev pub put : Sort → Option ℕ → InstructionModel → Flat → Flat
put IsOther p i f = f
put IsBlock p i f = push p i f
put IsIf p i f = f

-- the output after an open group closes
abbrev pub closed : OpenGroup → Flat → Flat
closed (InFolded i p) f = push p i f
closed (InIf i p) f = f
closed InArm f = f
closed _ f = push None end_instr f

abbrev pub CanClose : OpenGroup → Type 0
CanClose (InIf i p) = ⊥
CanClose _ = Unit {0}

ends_behind : (o : TalliedFlat) (r : List Token) (s : List OpenGroup) → IsOpen s → (ts : List Token) (f : TalliedFlat) → after_open_group o r s ts f → Stops ts
ends_behind o r [] h [] f k = tt
ends_behind o r [] h (RParen ∷ ts) f k = tt
ends_behind o r [] h (t ∷ ts) f k = absurd (let e = k.0 in cc)
ends_behind o r (InIf i p ∷ s) h ts f k = subst Stops (sym k.1) refl
ends_behind o r (AfterThen ∷ s) h ts f k = absurd h
ends_behind o r (AfterElse ∷ s) h ts f k = absurd h
ends_behind o r (l ∷ s) h ts f k = subst Stops (sym k.1) tt

pub plain_is_open : (s : List OpenGroup) → TakesPlain s → IsOpen s
plain_is_open [] h = tt
plain_is_open (InIf i p ∷ s) h = tt
plain_is_open (l ∷ s) h = h

-- an item fits the pending hint if its instruction suits the hint
fits_by : (p : Option ℕ) (i : InstructionModel) (xs : Items) → (is_branch i ≡ true → BeginsWithBranch xs) → suits p i ≡ true → Fits p xs
fits_by None i xs k t = tt
fits_by (Some v) i xs k t = k t

suits_by : (p : Option ℕ) (i : InstructionModel) (xs : Items) → (BeginsWithBranch xs → is_branch i ≡ true) → Fits p xs → suits p i ≡ true
suits_by None i xs k f = refl
suits_by (Some v) i xs k f = k f

no_hint : (p : Option ℕ) (xs : Items) → (BeginsWithBranch xs → ⊥) → Fits p xs → p ≡ None
no_hint None xs k f = refl
no_hint (Some v) xs k f = absurd (k f)

-- the cases of the next tokens: the end, an instruction, a group or a hint
pub next : {C : Type 0} (o : TalliedFlat) (r : List Token) (s : List OpenGroup) (p : Option ℕ) (ts : List Token) (f : TalliedFlat)
    → (p ≡ None → after_open_group o r s ts f → C)
    → ((i : InstructionModel) (m : List Token) → TakesPlain s → reads i ts m → suits p i ≡ true → Rest o r s None m (goes s (push p i f.out) (item_more f)) → C)
    → ((k : Sort) (i : InstructionModel) (a b : List Token) → IsOpen s → ts ≡ LParen ∷ a → reads i a b → suits p i ≡ true → sort i ≡ k → Rest o r (inside k i p ∷ s) None b (goes (inside k i p ∷ s) (put k p i f.out) (item_more f)) → C)
    → ((v : ℕ) (d : List Token) → IsOpen s → p ≡ None → v < 2 → ts ≡ LParen ∷ hint_name ∷ String (v ∷ []) ∷ RParen ∷ d → Rest o r s (Some v) d (goes s f.out (item_more f)) → C)
    → Rest o r s p ts f → C
next o r s p ts f over plain group hint (Nil, u, l, fit, only, z) = over (no_hint p Nil (λ b. b) fit) (rw l z)
next o r s p ts f over plain group hint (Plain j xs, u, l, fit, only, z) = plain j l.0 only.0 l.1 (suits_by p j (Plain j xs) (λ b. b) fit) (xs, u, l.2, tt, only.1, z)
next o r s p ts f over plain group hint (Folded j ys xs, u, l, fit, only, z) =
    group IsOther j l.0 l.1 only.0 l.3 l.5 (suits_by p j (Folded j ys xs) (folded_branch j) fit) l.4 (ys, RParen ∷ l.2, l.6, tt, any_items ys, (l.2, refl, (xs, u, l.7, tt, only.1, z)))
next o r s p ts f over plain group hint (Block j ys xs, u, l, fit, only, z) =
    group IsBlock j l.0 l.1 only.0 l.3 l.5 (suits_by p j (Block j ys xs) (λ b. absurd b) fit) l.4 (ys, RParen ∷ l.2, l.6, tt, any_items ys, (l.2, refl, (xs, u, l.7, tt, only.1, z)))
next o r s p ts f over plain group hint (IfThen j ops th xs, u, l, fit, only, z) =
    group IsIf j l.0 l.1 only.0 l.4 l.6 (suits_by p j (IfThen j ops th xs) (λ b. if_branch j l.5) fit) l.5
    (ops, _, l.8, tt, l.7, (l.2, refl, (th, _, l.9, tt, any_items th, (RParen ∷ l.3, refl, inl (l.3, refl, (xs, u, l.10, tt, only.1, z))))))
next o r s p ts f over plain group hint (IfElse j ops th el xs, u, l, fit, only, z) =
    group IsIf j l.0 l.1 only.0 l.5 l.7 (suits_by p j (IfElse j ops th el xs) (λ b. if_branch j l.6) fit) l.6
    (ops, _, l.9, tt, l.8, (l.2, refl, (th, _, l.10, tt, any_items th, (LParen ∷ keyword (codes "else") ∷ l.3, refl, inr (l.3, refl, (el, _, l.11, tt, any_items el, (RParen ∷ l.4, refl, (l.4, refl, (xs, u, l.12, tt, only.1, z)))))))))
next o r s p ts f over plain group hint (Hinted v xs, u, l, fit, only, z) = hint v l.0 only.0 (no_hint p (Hinted v xs) (λ b. b) fit) l.2 l.1 (xs, u, l.4, l.3, only.1, z)

-- if no item is possible, the list ends
pub ended : (o : TalliedFlat) (r : List Token) (s : List OpenGroup) (p : Option ℕ) (ts : List Token) (f : TalliedFlat) → (IsOpen s → Stops ts) → Rest o r s p ts f → (p ≡ None) × after_open_group o r s ts f
ended o r s p ts f st =
    next o r s p ts f (λ e k. (e, k)) (λ j m a h t z. absurd (stops_no_word j ts m h (st (plain_is_open s a))))
    (λ k j a b g e h t q z. absurd (stops_no_group j a b h (stops_at _ ts (sym e) (st g)))) (λ v d g e lt q z. absurd (stops_at _ ts (sym q) (st g)))

module _ (o : TalliedFlat) (r : List Token) (s : List OpenGroup) where
  pub group_back : (k : Sort) (p : Option ℕ) (i : InstructionModel) (a b : List Token) (f : TalliedFlat) → IsOpen s → reads i a b → suits p i ≡ true → sort i ≡ k → Rest o r (inside k i p ∷ s) None b (goes (inside k i p ∷ s) (put k p i f.out) (item_more f)) → Rest o r s p (LParen ∷ a) f
  group_back IsOther p i a b f g h t ki (ys, q, l, fit, only, (d, e, (xs, u, l', fit', only', z))) =
      (Folded i ys xs, u, (a, b, d, refl, ki, h, rw e at l, l'), fits_by p i (Folded i ys xs) (branch_folded i ki) t, (g, only'), z)
  group_back IsBlock p i a b f g h t ki (ys, q, l, fit, only, (d, e, (xs, u, l', fit', only', z))) =
      (Block i ys xs, u, (a, b, d, refl, ki, h, rw e at l, l'), fits_by p i (Block i ys xs) (branch_block i ki) t, (g, only'), z)
  group_back IsIf p i a b f g h t ki (ops, q, l, fit, only, (d, e, (th, q2, l2, fit2, only2, (d2, e2, inl (d3, e3, (xs, u, l', fit', only', z)))))) =
      let e4 : q2 ≡ RParen ∷ RParen ∷ d3 = cc in
      (IfThen i ops th xs, u, (a, b, d, d3, refl, ki, h, only, rw e at l, rw e4 at l2, l'), fits_by p i (IfThen i ops th xs) (λ b. tt) t, (g, only'), z)
  group_back IsIf p i a b f g h t ki (ops, q, l, fit, only, (d, e, (th, q2, l2, fit2, only2, (d2, e2, inr (d3, e3, (el, q4, l4, fit4, only4, (d5, e5, (d6, e6, (xs, u, l', fit', only', z))))))))) =
      let e7 : q2 ≡ RParen ∷ LParen ∷ keyword (codes "else") ∷ d3 = cc in
      let e8 : q4 ≡ RParen ∷ RParen ∷ d6 = cc in
      (IfElse i ops th el xs, u, (a, b, d, d3, d6, refl, ki, h, only, rw e at l, rw e7 at l2, rw e8 at l4, l'), fits_by p i (IfElse i ops th el xs) (λ b. tt) t, (g, only'), z)

  -- an open group closes
  shut : (l : OpenGroup) (m : List Token) (f : TalliedFlat) → CanClose l → after_open_group o r (l ∷ s) (RParen ∷ m) f → at_closing (length s) (heads_in s) (λ t g. Rest o r s None t (record { out = closed l g.out; items = g.items; peak = g.peak; held = g.held })) (RParen ∷ m) f
  shut (InIf i p) m f c k = absurd c
  shut AfterThen m f c (inl k) = k
  shut AfterThen m f c (inr (d, e, k)) = cc
  shut l m f c k = k

  pub close_forth : (l : OpenGroup) (m : List Token) (f : TalliedFlat) → CanClose l → Rest o r (l ∷ s) None (RParen ∷ m) f → Rest o r s None m (goes s (closed l f.out) f)
  close_forth l m f c k =
      let z = shut l m f c (ended o r (l ∷ s) None (RParen ∷ m) f (λ _. tt) k).1 in
      let q : z.0 ≡ m = (let e = z.1 in cc) in rw q at z.2

  pub close_back : (l : OpenGroup) (m : List Token) (f : TalliedFlat) → CanClose l → Rest o r s None m (goes s (closed l f.out) f) → Rest o r (l ∷ s) None (RParen ∷ m) f
  close_back (InIf i p) m f c k = absurd c
  close_back AfterThen m f c k = (Nil, RParen ∷ m, refl, tt, tt, inl (m, refl, k))
  close_back l m f c k = (Nil, RParen ∷ m, refl, tt, tt, (m, refl, k))

  -- an arm, and the open group around it, in which no item can be
  pub arm_forth : (l : OpenGroup) (w : Token) (m : List Token) (f : TalliedFlat) → (d : List Token) × (LParen ∷ w ∷ m ≡ LParen ∷ w ∷ d) × arm (length s) (heads_in (l ∷ s)) (after_open_group o r (l ∷ s)) d f → Rest o r (InArm ∷ l ∷ s) None m f
  arm_forth l w m f (d, e, (xs, u, t, fit, only, (c, e2, k))) = let q : d ≡ m = cc in (xs, u, rw q at t, fit, only, (c, e2, (Nil, c, refl, tt, tt, k)))

  pub arm_back : (l : OpenGroup) (m : List Token) (f : TalliedFlat) → (IsOpen (l ∷ s) → ⊥) → Rest o r (InArm ∷ l ∷ s) None m f → arm (length s) (heads_in (l ∷ s)) (after_open_group o r (l ∷ s)) m f
  arm_back l m f n (xs, u, t, fit, only, (c, e, k)) = (xs, u, t, fit, only, (c, e, (ended o r (l ∷ s) None c _ (λ g. absurd (n g)) k).1))

abbrev pub at : List OpenGroup → Option ℕ → List Token → Flat → LoopState
at s p ts f = record { open_groups = s; pending = p; left = ts; out = f }

turn_is : (s t : LoopState) (n : ℕ → ℕ) → ((m : ℕ) → n m ≤ suc m) → ((c : Tallies) (o : TalliedFlat) (r : List Token) → Finishes o r (state_with s c) → Finishes o r (state_with t (risen (n c.items) t.open_groups c)))
    → ((c : Tallies) (o : TalliedFlat) (r : List Token) → Finishes o r (state_with t (risen (n c.items) t.open_groups c)) → Finishes o r (state_with s c))
    → length t.left < length s.left → Balanced (length s.open_groups) s.left (length t.open_groups) t.left → Turn s t
turn_is s t n le forth back shorter balanced = record { same = λ c. (n c.items, le c.items, record { forth = forth c; back = back c }); shorter = shorter; balanced = balanced }

-- ---- obligations of each exit

-- unless memory ran out, the turn was made
moved : {A : Type 0} (res : Result A Error) {C : Type 0} {s t : LoopState} → MatchResult res (λ _. C) (λ e. e.fault ≡ Memory) → (C → Turn s t) → TurnAnswers res s t
moved (Ok x) m k = k m
moved (Err x) m k = λ n. absurd (n m)

pub turn_close : {A : Type 0} (res : Result A Error) (l : OpenGroup) (open_groups s : List OpenGroup) (p : Option ℕ) (m : List Token) (f g : Flat) → p ≡ None → open_groups ≡ l ∷ s → CanClose l → MatchResult res (λ _. g ≡ closed l f) (λ e. e.fault ≡ Memory) → TurnAnswers res (at open_groups p (RParen ∷ m) f) (at s p m g)
turn_close res l open_groups s p m f g none e a r = moved res r (λ q. rw (e, none, q) (turn_is _ _ (λ n. n) (omega arith) (λ c o r. close_forth o r s l m (with_tallies f c) a) (λ c o r. close_back o r s l m (with_tallies f c) a) (omega arith) (omega arith)))

pub turn_then : {A : Type 0} (res : Result A Error) (open_groups s new mid : List OpenGroup) (p h : Option ℕ) (i : InstructionModel) (m : List Token) (f g : Flat) → p ≡ None → open_groups ≡ InIf i h ∷ s → g ≡ push h i f → mid ≡ AfterThen ∷ s → MatchResult res (λ _. new ≡ InArm ∷ mid) (λ e. e.fault ≡ Memory) → TurnAnswers res (at open_groups p (LParen ∷ keyword (codes "then") ∷ m) f) (at new p m g)
turn_then res open_groups s new mid p h i m f g none e q k r =
    moved res r (λ n. rw (e, none, q, n, k) (turn_is _ _ (λ n. n) (omega arith)
    (λ c o r k. arm_forth o r s AfterThen _ m _ (ended o r (InIf i h ∷ s) None _ (with_tallies f c) (λ _. refl) k).1)
    (λ c o r k. (Nil, _, refl, tt, tt, (m, refl, arm_back o r s AfterThen m _ (λ a. a) k))) (omega arith) (omega arith)))

pub turn_else : {A : Type 0} (res : Result A Error) (open_groups s new : List OpenGroup) (p : Option ℕ) (ts m : List Token) (f g : Flat) → p ≡ None → open_groups ≡ AfterThen ∷ s → ts ≡ keyword (codes "else") ∷ m → new ≡ InArm ∷ AfterElse ∷ s → MatchResult res (λ _. g ≡ push None else_instr f) (λ e. e.fault ≡ Memory) → TurnAnswers res (at open_groups p (LParen ∷ ts) f) (at new p m g)
turn_else res open_groups s new p ts m f g none e t n r =
    moved res r (λ q. rw (e, none, t, n, q) (turn_is _ _ (λ n. n) (omega arith)
    (λ c o r k. elim (ended o r (AfterThen ∷ s) None _ (with_tallies f c) (λ a. absurd a) k).1 [ inl x ↦ (let e = x.1 in cc) | inr x ↦ arm_forth o r s AfterElse _ m _ x ])
    (λ c o r k. (Nil, _, refl, tt, tt, inr (m, refl, arm_back o r s AfterElse m _ (λ a. a) k))) (omega arith) (omega arith)))

pub turn_plain : {A : Type 0} (res : Result A Error) (s : List OpenGroup) (p after : Option ℕ) (i : InstructionModel) (ts m : List Token) (f g : Flat) → TakesPlain s → reads i ts m → suits p i ≡ true → after ≡ None → MatchResult res (λ _. g ≡ push p i f) (λ e. e.fault ≡ Memory) → TurnAnswers res (at s p ts f) (at s after m g)
turn_plain res s p after i ts m f g a h t n r =
    moved res r (λ q. rw (n, q) (turn_is _ _ suc (omega arith)
    (λ c o r. next o r s p ts (with_tallies f c) (λ e k. absurd (stops_no_word i ts m h (ends_behind o r s (plain_is_open s a) ts _ k))) (λ j n a rj t z. let one = reads_one j i ts n m rj h in rw (← one.0, ← one.1) z)
    (λ k j a b g e rj t q z. absurd (no_paren i ts a m h e)) (λ v d g e lt q z. absurd (no_paren i ts _ m h q)))
    (λ c o r (xs, u, l, fit, only, z). (Plain i xs, u, (m, h, l), fits_by p i (Plain i xs) (λ b. b) t, (a, only), z)) (reads_shorter i ts m h) (omega (arith, reads_balanced i ts m h))))

pub turn_group : {A : Type 0} (res : Result A Error) (k : Sort) (s new : List OpenGroup) (p after : Option ℕ) (i : InstructionModel) (ts m : List Token) (f g : Flat) → sort i ≡ k → IsOpen s → reads i ts m → suits p i ≡ true → after ≡ None → g ≡ put k p i f → MatchResult res (λ _. new ≡ inside k i p ∷ s) (λ e. e.fault ≡ Memory) → TurnAnswers res (at s p (LParen ∷ ts) f) (at new after m g)
turn_group res k s new p after i ts m f g q a h t n l r =
    moved res r (λ e. rw (n, l, e) (turn_is _ _ suc (omega arith)
    (λ c o r. next o r s p (LParen ∷ ts) (with_tallies f c) (λ e z. absurd (stops_no_group i ts m h (ends_behind o r s a _ _ z))) (λ j n b rj t z. absurd (word_front j LParen ts n rj))
    (λ x j b d g e rj t lj z. let one = same_group i j ts m b d e h rj in rw (one_sort i j k x one.0 q lj, ← one.0, ← one.1) z) (λ v d g e lt y z. absurd (no_hint_word i ts m _ y h)))
    (λ c o r. group_back o r s k p i ts m (with_tallies f c) a h t q) (omega (arith, reads_shorter i ts m h)) (omega (arith, reads_balanced i ts m h))))

pub turn_hint : (s : List OpenGroup) (p : Option ℕ) (v : ℕ) (w : List ℕ) (u u2 d : List Token) (f : Flat) → IsOpen s → p ≡ None → u ≡ String w ∷ u2 → w ≡ v ∷ [] → u2 ≡ RParen ∷ d → v < 2 → Turn (at s p (LParen ∷ hint_name ∷ u) f) (at s (Some v) d f)
turn_hint s p v w u u2 d f g n e ew e2 lt =
    rw (n, e, ew, e2) (turn_is _ _ suc (omega arith)
    (λ c o r. next o r s None _ (with_tallies f c) (λ e z. absurd (ends_behind o r s g _ _ z)) (λ j m a rj t z. absurd (word_front j LParen _ m rj)) (λ k j a b g2 e rj t q z. absurd (no_hint_word j a b _ (sym e) rj))
    (λ x y g2 e lt q z. let ex : x ≡ v = cc in let ey : y ≡ d = cc in rw (← ex, ← ey) z))
    (λ c o r (xs, x, l, fit, only, z). (Hinted v xs, x, (d, refl, lt, fit, l), tt, (g, only), z)) (omega arith) (omega arith))

pub sort_block : (i : InstructionModel) → is_block i.row ≡ true → sort i ≡ IsBlock
sort_block i b = rw b refl

pub sort_if : (i : InstructionModel) → is_block i.row ≡ false → is_if i.row ≡ true → sort i ≡ IsIf
sort_if i b c = rw (b, c) refl

pub sort_other : (i : InstructionModel) → is_block i.row ≡ false → is_if i.row ≡ false → sort i ≡ IsOther
sort_other i b c = rw (b, c) refl

-- a hint waits at the end of the list
pub unpending : (s : List OpenGroup) (p : Option ℕ) (v : ℕ) (ts : List Token) (f : Flat) → p ≡ Some v → (IsOpen s → Stops ts) → Stuck (at s p ts f)
unpending s p v ts f e st c o r k = let n = (ended o r s p ts (with_tallies f c) st k).0 in cc

-- an `if` without (then
pub if_close : (open_groups s : List OpenGroup) (p h : Option ℕ) (i : InstructionModel) (m : List Token) (f : Flat) → open_groups ≡ InIf i h ∷ s → Stuck (at open_groups p (RParen ∷ m) f)
if_close open_groups s p h i m f e = rw e (λ c o r k. let q = (ended o r (InIf i h ∷ s) p _ (with_tallies f c) (λ _. tt) k).1.1 in cc)

-- a third group in an `if`
pub too_many : (open_groups s : List OpenGroup) (p : Option ℕ) (m : List Token) (f : Flat) → open_groups ≡ AfterElse ∷ s → Stuck (at open_groups p (LParen ∷ m) f)
too_many open_groups s p m f e = rw e (λ c o r k. let q = (ended o r (AfterElse ∷ s) p _ (with_tallies f c) (λ a. absurd a) k).1.1 in cc)

-- after (then ..), only (else can open
pub else_wanted : (open_groups s : List OpenGroup) (p : Option ℕ) (m : List Token) (f : Flat) → open_groups ≡ AfterThen ∷ s → ((d : List Token) → m ≡ keyword (codes "else") ∷ d → ⊥) → Stuck (at open_groups p (LParen ∷ m) f)
else_wanted open_groups s p m f e never =
    rw e (λ c o r k. elim (ended o r (AfterThen ∷ s) p _ (with_tallies f c) (λ a. absurd a) k).1 [ inl x ↦ (let q = x.1 in cc) | inr x ↦ never x.0 (let q = x.1 in cc) ])

-- the first tokens after the items of an open group
no_behind : (s : List OpenGroup) (o : TalliedFlat) (r ts : List Token) (f : TalliedFlat) → ((i : InstructionModel) (h : Option ℕ) (q : List OpenGroup) (d : List Token) → s ≡ InIf i h ∷ q → ts ≡ LParen ∷ keyword (codes "then") ∷ d → ⊥) → ((IsOpen s → ⊥) → (d : List Token) → ts ≡ LParen ∷ d → ⊥)
    → ((s ≡ [] → ⊥) → (d : List Token) → ts ≡ RParen ∷ d → ⊥) → (s ≡ [] → ends ts ≡ true → ⊥) → after_open_group o r s ts f → ⊥
no_behind [] o r ts f no_then no_else no_close no_end k = no_end refl k.0
no_behind (InIf i h ∷ s) o r ts f no_then no_else no_close no_end k = no_then i h s k.0 refl k.1
no_behind (AfterThen ∷ s) o r ts f no_then no_else no_close no_end (inl k) = no_close (λ e. cc) k.0 k.1
no_behind (AfterThen ∷ s) o r ts f no_then no_else no_close no_end (inr k) = no_else (λ a. a) _ k.1
no_behind (l ∷ s) o r ts f no_then no_else no_close no_end k = no_close (λ e. cc) k.0 k.1

-- an instruction is needed, and something else is next
pub no_plain : (s : List OpenGroup) (p : Option ℕ) (ts : List Token) (f : Flat) → ((d : List Token) → ts ≡ LParen ∷ d → ⊥) → ((s ≡ [] → ⊥) → (d : List Token) → ts ≡ RParen ∷ d → ⊥) → (s ≡ [] → ends ts ≡ true → ⊥) → (TakesPlain s → (i : InstructionModel) (m : List Token) → reads i ts m → suits p i ≡ true → ⊥) → Stuck (at s p ts f)
no_plain s p ts f no_group no_close no_end never c o r =
    next o r s p ts _ (λ e. no_behind s o r ts (with_tallies f c) (λ i h q d e. no_group _) (λ n. no_group) no_close no_end) (λ i m a h t z. never a i m h t) (λ k i a b g e h t q z. no_group a e) (λ v d g e lt q z. no_group _ q)

-- the tokens after `(` begin with no instruction, no hint and no `then`
pub no_item : (s : List OpenGroup) (p : Option ℕ) (u : List Token) (f : Flat) → IsOpen s → ((d : List Token) → u ≡ hint_name ∷ d → ⊥) → ((ts : List Token) → u ≡ keyword (codes "then") ∷ ts → (i : InstructionModel) (h : Option ℕ) (q : List OpenGroup) → s ≡ InIf i h ∷ q → ⊥) → ((i : InstructionModel) (m : List Token) → reads i u m → suits p i ≡ true → ⊥) → Stuck (at s p (LParen ∷ u) f)
no_item s p u f g no_hint no_then never c o r =
    next o r s p _ _ (λ e. no_behind s o r _ (with_tallies f c) (λ i h q d e e2. no_then d (cc) i h q e) (λ n. absurd (n g)) (λ n d e. cc) (λ e e2. cc)) (λ i m a h t z. word_front i LParen u m h)
    (λ k i a b g e h t q z. let e2 : a ≡ u = cc in never i b (rw e2 at h) t) (λ v d g e lt q z. no_hint (String (v ∷ []) ∷ RParen ∷ d) (cc))

-- ---- hints

module _ (s : List OpenGroup) (p : Option ℕ) (u : List Token) (f : Flat) (g : IsOpen s) where
  unless : (p ≡ None → (v : ℕ) (d : List Token) → v < 2 → u ≡ String (v ∷ []) ∷ RParen ∷ d → ⊥) → Stuck (at s p (LParen ∷ hint_name ∷ u) f)
  unless never c o r =
      next o r s p _ _ (λ e. no_behind s o r _ (with_tallies f c) (λ i h q d e e2. cc) (λ n. absurd (n g)) (λ n d e. cc) (λ e e2. cc)) (λ i m a h t z. word_front i LParen _ m h)
      (λ k i a b g e h t q z. no_hint_word i a b u (sym e) h) (λ v d g e lt q z. never e v d lt (cc))

  pub hint_pending : (v : ℕ) → p ≡ Some v → Stuck (at s p (LParen ∷ hint_name ∷ u) f)
  hint_pending v e = unless (λ n v d lt q. cc)

  pub hint_text : ((w : List ℕ) (ts : List Token) → u ≡ String w ∷ ts → ⊥) → Stuck (at s p (LParen ∷ hint_name ∷ u) f)
  hint_text never = unless (λ n v d lt q. never (v ∷ []) (RParen ∷ d) q)

  pub hint_value : (w : List ℕ) (ts : List Token) → u ≡ String w ∷ ts → ((v : ℕ) → v < 2 → w ≡ v ∷ [] → ⊥) → Stuck (at s p (LParen ∷ hint_name ∷ u) f)
  hint_value w ts e never = unless (λ n v d lt q. never v lt (cc))

  pub hint_close : (w : List ℕ) (ts : List Token) → u ≡ String w ∷ ts → ((d : List Token) → ts ≡ RParen ∷ d → ⊥) → Stuck (at s p (LParen ∷ hint_name ∷ u) f)
  hint_close w ts e never = unless (λ n v d lt q. never d (cc))

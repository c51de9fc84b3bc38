-- The remaining work of the loop in a state: the meaning of its open groups.
use Rattle.std.specs.Prelude.{◌≡◌, ◌≢◌, ◌⊎◌, ℕ, suc, ◌≤◌, ◌+◌, ◌<◌, max, Bool, true, List, [], ◌∷◌, length, Option, Some, None, Result, Ok, Err, codes}
use Rattle.wat_instr.specs.Prelude.{Token, LParen, RParen, Error, Memory, opens, closes, ends, InstructionModel, else_instr, end_instr}
use Rattle.wat_expr.specs.Flat.{Flat, push}
use Rattle.wat_expr.specs.Items.{keyword, Items, Nil, Plain, Folded, Block, IfThen, IfElse, Hinted, Only, is_branch, BeginsWithBranch, lists}
use Rattle.wat_expr.specs.OpenGroups.{OpenGroup, InFolded, InBlock, InIf, AfterThen, AfterElse, InArm, heads_in}

-- the output, the number of items, and the greatest numbers of open groups and of heads so far
pub record TalliedFlat : Type 0 where
  pub out : Flat
  pub items : ℕ
  pub peak : ℕ
  pub held : ℕ

abbrev pub with_instr : Option ℕ → InstructionModel → TalliedFlat → TalliedFlat
with_instr p i f = record { out = push p i f.out; items = f.items; peak = f.peak; held = f.held }

-- one more item
abbrev pub item_more : TalliedFlat → TalliedFlat
item_more f = record { out = f.out; items = suc f.items; peak = f.peak; held = f.held }

-- at the end of a turn: k groups are open, and they hold h heads
abbrev pub noted : ℕ → ℕ → TalliedFlat → TalliedFlat
noted k h f = record { out = f.out; items = f.items; peak = max f.peak k; held = max f.held h }

-- The tallied output after the items, turn by turn, in k open groups that hold h heads. The hint p
-- is directly before the first item.
abbrev pub emit : ℕ → ℕ → Option ℕ → Items → TalliedFlat → TalliedFlat
emit k h p Nil f = f
emit k h p (Plain i xs) f = emit k h None xs (noted k h (with_instr p i (item_more f)))
emit k h p (Folded i ys xs) f =
    emit k h None xs (noted k h (with_instr p i
    (emit (suc k) (suc h) None ys (noted (suc k) (suc h) (item_more f)))))
emit k h p (Block i ys xs) f =
    emit k h None xs (noted k h (with_instr None end_instr
    (emit (suc k) h None ys (noted (suc k) h (with_instr p i (item_more f))))))
emit k h p (IfThen i ops th xs) f =
    emit k h None xs (noted k h (with_instr None end_instr
    (noted (suc k) h (emit (suc (suc k)) h None th
    (noted (suc (suc k)) h (with_instr p i
    (emit (suc k) (suc h) None ops (noted (suc k) (suc h) (item_more f)))))))))
emit k h p (IfElse i ops th el xs) f =
    emit k h None xs (noted k h (with_instr None end_instr
    (noted (suc k) h (emit (suc (suc k)) h None el
    (noted (suc (suc k)) h (with_instr None else_instr
    (noted (suc k) h (emit (suc (suc k)) h None th
    (noted (suc (suc k)) h (with_instr p i
    (emit (suc k) (suc h) None ops (noted (suc k) (suc h) (item_more f)))))))))))))
emit k h p (Hinted v xs) f = emit k h (Some v) xs (noted k h (item_more f))

-- the items can follow the pending hint
abbrev pub Fits : Option ℕ → Items → Type 0
Fits None xs = Unit {0}
Fits (Some v) xs = BeginsWithBranch xs

-- whether an instruction can be the first after the pending hint
abbrev pub suits : Option ℕ → InstructionModel → Bool
suits None i = true
suits (Some v) i = is_branch i

-- a condition on the tokens after a list of items, and on the output so far
abbrev pub After : Type 1
After = List Token → TalliedFlat → Type 0

-- Items, and then the condition K on the tokens after them.
abbrev pub Open : Type 0 → Type 0 → After → ℕ → ℕ → Option ℕ → List Token → TalliedFlat → Type 0
Open P G K k h p ts f =
    (xs : Items) × (r : List Token) × lists xs ts r × Fits p xs × Only P G xs
    × K r (emit k h p xs f)

-- the condition at a `)`: N holds after it, in k open groups that hold h heads
abbrev pub at_closing : ℕ → ℕ → After → After
at_closing k h N r f = (m : List Token) × (r ≡ RParen ∷ m) × N m (noted k h f)

-- at the `)`, an instruction is added
abbrev pub close_with : ℕ → ℕ → After → InstructionModel → Option ℕ → After
close_with k h N i p = at_closing k h (λ m f. N m (with_instr p i f))

-- after (else ..), the `if` is closed
abbrev pub after_else : ℕ → ℕ → After → After
after_else k h N = close_with k h N end_instr None

-- the items of an arm, and the condition after the arm
abbrev pub arm : ℕ → ℕ → After → After
arm k h N = Open (Unit {0}) (Unit {0}) (at_closing (suc k) h N) (suc (suc k)) h None

-- after (then ..), the `if` is closed or (else follows
abbrev pub after_then : ℕ → ℕ → After → After
after_then k h N ts f =
    after_else k h N ts f ⊎ ((m : List Token) × (ts ≡ LParen ∷ keyword (codes "else") ∷ m)
    × arm k h (after_else k h N) m (noted (suc (suc k)) h (with_instr None else_instr f)))

-- after the operands of an `if`, (then follows
abbrev pub then_arm : ℕ → ℕ → After → InstructionModel → Option ℕ → After
then_arm k h N i p ts f =
    (m : List Token) × (ts ≡ LParen ∷ keyword (codes "then") ∷ m)
    × arm k h (after_then k h N) m (noted (suc (suc k)) h (with_instr p i f))

-- at the end, r is left, and the output is o
abbrev pub all_done : TalliedFlat → List Token → After
all_done o r ts f = (ends ts ≡ true) × (ts ≡ r) × (f ≡ o)

-- the open groups that can directly hold an item, and the open groups that can directly hold a
-- Plain item
abbrev pub IsOpen : List OpenGroup → Type 0
IsOpen (AfterThen ∷ s) = ⊥
IsOpen (AfterElse ∷ s) = ⊥
IsOpen _ = Unit {0}

abbrev pub TakesPlain : List OpenGroup → Type 0
TakesPlain (InIf i h ∷ s) = ⊥
TakesPlain (AfterThen ∷ s) = ⊥
TakesPlain (AfterElse ∷ s) = ⊥
TakesPlain _ = Unit {0}

-- the condition after the items of the innermost open group, up to the end, where r is left and the
-- output is o
abbrev pub after_open_group : TalliedFlat → List Token → List OpenGroup → After
after_open_group o r [] = all_done o r
after_open_group o r (InFolded i p ∷ s) =
    close_with (length s) (heads_in s)
    (Open (TakesPlain s) (IsOpen s) (after_open_group o r s) (length s) (heads_in s) None) i p
after_open_group o r (InBlock ∷ s) =
    close_with (length s) (heads_in s)
    (Open (TakesPlain s) (IsOpen s) (after_open_group o r s) (length s)
    (heads_in s) None) end_instr None
after_open_group o r (InIf i p ∷ s) =
    then_arm (length s) (heads_in s)
    (Open (TakesPlain s) (IsOpen s) (after_open_group o r s) (length s) (heads_in s) None) i p
after_open_group o r (AfterThen ∷ s) =
    after_then (length s) (heads_in s)
    (Open (TakesPlain s) (IsOpen s) (after_open_group o r s) (length s) (heads_in s) None)
after_open_group o r (AfterElse ∷ s) =
    after_else (length s) (heads_in s)
    (Open (TakesPlain s) (IsOpen s) (after_open_group o r s) (length s) (heads_in s) None)
after_open_group o r (InArm ∷ s) =
    at_closing (length s) (heads_in s)
    (Open (TakesPlain s) (IsOpen s) (after_open_group o r s) (length s) (heads_in s) None)

-- the state of the loop; the innermost open group is first
pub record TalliedState : Type 0 where
  pub open_groups : List OpenGroup
  pub pending : Option ℕ
  pub left : List Token
  pub flat : TalliedFlat

-- From the state s, the tokens that are left finish with the output o before the rest r.
abbrev pub Finishes : TalliedFlat → List Token → TalliedState → Type 0
Finishes o r s =
    Open (TakesPlain s.open_groups) (IsOpen s.open_groups) (after_open_group o r s.open_groups)
    (length s.open_groups)
    (heads_in s.open_groups) s.pending s.left s.flat

-- both states finish with the same outputs and rests
pub record Same (s t : TalliedState) : Type 0 where
  pub forth : (o : TalliedFlat) (r : List Token) → Finishes o r s → Finishes o r t
  pub back : (o : TalliedFlat) (r : List Token) → Finishes o r t → Finishes o r s

-- the state can't finish
abbrev pub IsStuck : TalliedState → Type 0
IsStuck s = (o : TalliedFlat) (r : List Token) → Finishes o r s → ⊥

-- ---- a turn, for any counters before it

pub record Tallies : Type 0 where
  pub items : ℕ
  pub peak : ℕ
  pub held : ℕ

abbrev pub with_tallies : Flat → Tallies → TalliedFlat
with_tallies f c = record { out = f; items = c.items; peak = c.peak; held = c.held }

-- a state without counters
pub record LoopState : Type 0 where
  pub open_groups : List OpenGroup
  pub pending : Option ℕ
  pub left : List Token
  pub out : Flat

abbrev pub state_with : LoopState → Tallies → TalliedState
state_with s c =
    record {
      open_groups = s.open_groups;
      pending = s.pending;
      left = s.left;
      flat = with_tallies s.out c;
    }

-- the counters after a turn that leads to the open groups s, with n items
abbrev pub risen : ℕ → List OpenGroup → Tallies → Tallies
risen n s c = record { items = n; peak = max c.peak (length s); held = max c.held (heads_in s) }

-- the number of open groups rises by the number of taken `(`, minus the number of taken `)`
abbrev pub Balanced : ℕ → List Token → ℕ → List Token → Type 0
Balanced k ts l us = l + closes ts + opens us ≡ k + opens ts + closes us

-- The remaining work is the same as before, with at most one more item. At least one token was
-- taken, and the open groups match the parentheses.
pub record Turn (s t : LoopState) : Type 0 where
  pub same : (c : Tallies) → (n : ℕ) × (n ≤ suc c.items)
      × Same (state_with s c) (state_with t (risen n t.open_groups c))
  pub shorter : length t.left < length s.left
  pub balanced : Balanced (length s.open_groups) s.left (length t.open_groups) t.left

-- the state can't finish, for any counters
abbrev pub Stuck : LoopState → Type 0
Stuck s = (c : Tallies) → IsStuck (state_with s c)

-- With Ok, a turn was made. With an error other than Memory, the state can't finish.
abbrev pub TurnAnswers : {A : Type 0} → Result A Error → LoopState → LoopState → Type 0
TurnAnswers (Ok x) s t = Turn s t
TurnAnswers (Err e) s t = e.fault ≢ Memory → Stuck s

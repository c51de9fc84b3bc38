-- Expressions: items, the tokens that list items, and the unfolded instructions.
use Rattle.std.specs.Prelude.{◌≡◌, ℕ, suc, ◌+◌, ◌<◌, max, Bool, true, false, ◌||◌, List, [], ◌∷◌, ◌++◌, length, Option, Some, None, codes}
use Rattle.wat_instr.specs.Prelude.{Front, Token, LParen, RParen, Keyword, Annotation, String, InstructionModel, instruction, is_block, is_if, is_br_if, else_instr, end_instr}

-- the kind of a group, by its instruction
pub data Sort : Type 0 where
  IsBlock : Sort
  IsIf : Sort
  IsOther : Sort

abbrev pub sort_of : Bool → Bool → Sort
sort_of true _ = IsBlock
sort_of false true = IsIf
sort_of false false = IsOther

-- the instruction of a block, an `if`, or any other instruction
abbrev pub sort : InstructionModel → Sort
sort i = sort_of (is_block i.row) (is_if i.row)

-- A prefix of the tokens ts spells the instruction, and r is left.
abbrev pub reads : InstructionModel → List Token → List Token → Type 0
reads i ts r = Front instruction.spells ts (i, r)

-- A list of items: the first item, and as the last argument the items after it. A hint precedes the
-- items after it.
pub data Items : Type 0 where
  Nil : Items
  Plain : InstructionModel → Items → Items
  Folded : InstructionModel → Items → Items → Items
  Block : InstructionModel → Items → Items → Items
  IfThen : InstructionModel → Items → Items → Items → Items
  IfElse : InstructionModel → Items → Items → Items → Items → Items
  Hinted : ℕ → Items → Items

-- if the list has a Plain item, P holds; if it has any other item, G holds
abbrev pub Only : Type 0 → Type 0 → Items → Type 0
Only P G Nil = Unit {0}
Only P G (Plain i xs) = P × Only P G xs
Only P G (Folded i ys xs) = G × Only P G xs
Only P G (Block i ys xs) = G × Only P G xs
Only P G (IfThen i ops th xs) = G × Only P G xs
Only P G (IfElse i ops th el xs) = G × Only P G xs
Only P G (Hinted v xs) = G × Only P G xs

-- only groups and hints
abbrev pub AreGroups : Items → Type 0
AreGroups xs = Only ⊥ (Unit {0}) xs

-- whether the instruction is `br_if` or `if`
abbrev pub is_branch : InstructionModel → Bool
is_branch i = is_br_if i.row || is_if i.row

-- the first item is a plain `br_if` or `if`, a folded `br_if`, or the group of an `if`
abbrev pub BeginsWithBranch : Items → Type 0
BeginsWithBranch Nil = ⊥
BeginsWithBranch (Plain i xs) = is_branch i ≡ true
BeginsWithBranch (Folded i ys xs) = is_br_if i.row ≡ true
BeginsWithBranch (Block i ys xs) = ⊥
BeginsWithBranch (IfThen i ops th xs) = Unit {0}
BeginsWithBranch (IfElse i ops th el xs) = Unit {0}
BeginsWithBranch (Hinted v xs) = ⊥

-- the token of a keyword, and the token of the annotation of a hint
abbrev pub keyword : List ℕ → Token
keyword w = Keyword w

abbrev pub hint_name : Token
hint_name = Annotation (codes "metadata.code.branch_hint")

-- The tokens ts list the items before the rest r.
abbrev pub lists : Items → List Token → List Token → Type 0
-- nothing
lists Nil ts r = ts ≡ r
-- i
lists (Plain i xs) ts r = (m : List Token) × reads i ts m × lists xs m r
-- ( i items )
lists (Folded i ys xs) ts r =
    (a b d : List Token) × (ts ≡ LParen ∷ a) × (sort i ≡ IsOther) × reads i a b
    × lists ys b (RParen ∷ d) × lists xs d r
-- ( i items ), of a block
lists (Block i ys xs) ts r =
    (a b d : List Token) × (ts ≡ LParen ∷ a) × (sort i ≡ IsBlock) × reads i a b
    × lists ys b (RParen ∷ d) × lists xs d r
-- ( i groups ( then items ) ), of an `if`; i may include a block type
lists (IfThen i ops th xs) ts r =
    (a b d e : List Token) × (ts ≡ LParen ∷ a) × (sort i ≡ IsIf) × reads i a b × AreGroups ops
    × lists ops b (LParen ∷ keyword (codes "then") ∷ d) × lists th d (RParen ∷ RParen ∷ e)
    × lists xs e r
-- ( i groups ( then items ) ( else items ) )
lists (IfElse i ops th el xs) ts r =
    (a b d e f : List Token) × (ts ≡ LParen ∷ a) × (sort i ≡ IsIf) × reads i a b × AreGroups ops
    × lists ops b (LParen ∷ keyword (codes "then") ∷ d)
    × lists th d (RParen ∷ LParen ∷ keyword (codes "else") ∷ e)
    × lists el e (RParen ∷ RParen ∷ f) × lists xs f r
-- ( @metadata.code.branch_hint "v" ), v the byte 0 or 1, and an item whose instruction is `br_if`
-- or `if`
lists (Hinted v xs) ts r =
    (d : List Token) × (ts ≡ LParen ∷ hint_name ∷ String (v ∷ []) ∷ RParen ∷ d) × (v < 2)
    × BeginsWithBranch xs × lists xs d r

-- The instructions in the order of a flat list. A folded instruction comes after its operands. The
-- instruction of a block or an `if` comes before its contents, and `else` and `end` are added.
abbrev pub unfolded : Items → List InstructionModel
unfolded Nil = []
unfolded (Plain i xs) = i ∷ unfolded xs
unfolded (Folded i ys xs) = (unfolded ys ++ i ∷ []) ++ unfolded xs
unfolded (Block i ys xs) = (i ∷ (unfolded ys ++ end_instr ∷ [])) ++ unfolded xs
unfolded (IfThen i ops th xs) =
    (unfolded ops ++ (i ∷ (unfolded th ++ end_instr ∷ []))) ++ unfolded xs
unfolded (IfElse i ops th el xs) =
    (unfolded ops ++ (i ∷ (unfolded th ++ (else_instr ∷ (unfolded el ++ end_instr ∷ [])))))
    ++ unfolded xs
unfolded (Hinted v xs) = unfolded xs

-- the pair of an instruction's index and the hint directly before its item, if there is a hint
abbrev pub mark : Option ℕ → ℕ → List (ℕ × ℕ)
mark None head = []
mark (Some v) head = (head, v) ∷ []

-- The hints of items whose instructions have indices from b on. p is the hint directly before the
-- first item.
abbrev pub hints_behind : Option ℕ → Items → ℕ → List (ℕ × ℕ)
hints_behind p Nil b = []
hints_behind p (Plain i xs) b = mark p b ++ hints_behind None xs (b + 1)
hints_behind p (Folded i ys xs) b =
    let head = b + length (unfolded ys) in
    (hints_behind None ys b ++ mark p head) ++ hints_behind None xs (head + 1)
hints_behind p (Block i ys xs) b =
    (mark p b ++ hints_behind None ys (b + 1))
    ++ hints_behind None xs (b + 1 + length (unfolded ys) + 1)
hints_behind p (IfThen i ops th xs) b =
    let head = b + length (unfolded ops) in
    (hints_behind None ops b ++ (mark p head ++ hints_behind None th (head + 1)))
    ++ hints_behind None xs (head + 1 + length (unfolded th) + 1)
hints_behind p (IfElse i ops th el xs) b =
    let head = b + length (unfolded ops) in
    let other = head + 1 + length (unfolded th) + 1 in
    (hints_behind None ops b ++ (mark p head
    ++ (hints_behind None th (head + 1) ++ hints_behind None el other)))
    ++ hints_behind None xs (other + length (unfolded el) + 1)
hints_behind p (Hinted v xs) b = hints_behind (Some v) xs b

-- The hints of items whose instructions have indices from b on. Each hint has the index of the
-- instruction of the next item.
abbrev pub hints : Items → ℕ → List (ℕ × ℕ)
hints xs b = hints_behind None xs b

-- ---- number and depth of items

-- the number of items at all depths
abbrev pub count : Items → ℕ
count Nil = 0
count (Plain i xs) = suc (count xs)
count (Folded i ys xs) = suc (count ys + count xs)
count (Block i ys xs) = suc (count ys + count xs)
count (IfThen i ops th xs) = suc (count ops + count th + count xs)
count (IfElse i ops th el xs) = suc (count ops + count th + count el + count xs)
count (Hinted v xs) = suc (count xs)

-- the number of hints at all depths
abbrev pub count_hints : Items → ℕ
count_hints Nil = 0
count_hints (Plain i xs) = count_hints xs
count_hints (Folded i ys xs) = count_hints ys + count_hints xs
count_hints (Block i ys xs) = count_hints ys + count_hints xs
count_hints (IfThen i ops th xs) = count_hints ops + count_hints th + count_hints xs
count_hints (IfElse i ops th el xs) =
    count_hints ops + count_hints th + count_hints el + count_hints xs
count_hints (Hinted v xs) = suc (count_hints xs)

-- the nesting depth of groups: 0 for plain instructions and hints
abbrev pub depth : Items → ℕ
depth Nil = 0
depth (Plain i xs) = depth xs
depth (Folded i ys xs) = max (suc (depth ys)) (depth xs)
depth (Block i ys xs) = max (suc (depth ys)) (depth xs)
depth (IfThen i ops th xs) = max (suc (max (depth ops) (depth th))) (depth xs)
depth (IfElse i ops th el xs) = max (suc (max (depth ops) (max (depth th) (depth el)))) (depth xs)
depth (Hinted v xs) = depth xs

-- The maximal number of instructions that wait at once for the end of their operands. The
-- instruction of a folded group waits, and the instruction of an `if` until its `( then`.
abbrev pub deep : Items → ℕ
deep Nil = 0
deep (Plain i xs) = deep xs
deep (Folded i ys xs) = max (suc (deep ys)) (deep xs)
deep (Block i ys xs) = max (deep ys) (deep xs)
deep (IfThen i ops th xs) = max (max (suc (deep ops)) (deep th)) (deep xs)
deep (IfElse i ops th el xs) = max (max (suc (deep ops)) (max (deep th) (deep el))) (deep xs)
deep (Hinted v xs) = deep xs

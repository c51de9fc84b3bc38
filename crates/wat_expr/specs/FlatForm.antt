-- The flat form of listed items: the own tokens of their instructions, without groups and hints.
use Rattle.std.specs.Prelude.{◌≡◌, ℕ, ◌+◌, ◌-◌, Bool, false, if◌then◌else◌, List, [], ◌∷◌, ◌++◌, length, take, codes}
use Rattle.wat_instr.specs.Prelude.{Token, LParen, RParen, String, InstructionModel}
use Rattle.wat_expr.specs.Expression.{ExpressionModel}
use Rattle.wat_expr.specs.Items.{Items, Nil, Plain, Folded, Block, IfThen, IfElse, Hinted, Only, lists, keyword, hint_name}
use Rattle.wat_expr.specs.Folded.{Groups, NoGroup, Group, groups, is_folded}

-- the items of a list of plain instructions
abbrev pub one_by_one : List InstructionModel → Items
one_by_one [] = Nil
one_by_one (i ∷ is) = Plain i (one_by_one is)

-- only plain instructions
abbrev pub AreInstructions : Items → Type 0
AreInstructions xs = Only (Unit {0}) ⊥ xs

-- the own tokens of an instruction that is read from ts and leaves m: ts without m
abbrev pub own : List Token → List Token → List Token
own ts m = take (length ts - length m) ts

-- The own tokens of the instructions in the order of `unfolded`, with the keywords `else` and `end`
-- for added instructions. Parentheses, `then` and `else` after a parenthesis, and hints are left
-- out. Example: `( if ( i32.const 1 ) ( then nop ) )` gives `i32.const 1 if nop end`.
abbrev pub flat_tokens : (xs : Items) (ts r : List Token) → lists xs ts r → List Token
flat_tokens Nil ts r l = []
flat_tokens (Plain i xs) ts r (m, h, l) = own ts m ++ flat_tokens xs m r l
flat_tokens (Folded i ys xs) ts r (a, b, d, e, s, h, ly, lx) =
    (flat_tokens ys b (RParen ∷ d) ly ++ own a b) ++ flat_tokens xs d r lx
flat_tokens (Block i ys xs) ts r (a, b, d, e, s, h, ly, lx) =
    (own a b ++ (flat_tokens ys b (RParen ∷ d) ly ++ keyword (codes "end") ∷ []))
    ++ flat_tokens xs d r lx
flat_tokens (IfThen i ops th xs) ts r (a, b, d, e, q, s, h, g, lo, lt, lx) =
    (flat_tokens ops b (LParen ∷ keyword (codes "then") ∷ d) lo
    ++ (own a b ++ (flat_tokens th d (RParen ∷ RParen ∷ e) lt ++ keyword (codes "end") ∷ [])))
    ++ flat_tokens xs e r lx
flat_tokens (IfElse i ops th el xs) ts r (a, b, d, e, f, q, s, h, g, lo, lt, le, lx) =
    (flat_tokens ops b (LParen ∷ keyword (codes "then") ∷ d) lo
    ++ (own a b ++ (flat_tokens th d (RParen ∷ LParen ∷ keyword (codes "else") ∷ e) lt
    ++ (keyword (codes "else") ∷ (flat_tokens el e (RParen ∷ RParen ∷ f) le ++ keyword (codes "end")
    ∷ []))))) ++ flat_tokens xs f r lx
flat_tokens (Hinted v xs) ts r (d, e, lt, g, l) = flat_tokens xs d r l

-- the same for groups, in the order of `unfolded_groups`
abbrev pub flat_groups : (gs : Groups) (ts r : List Token) → groups gs ts r → List Token
flat_groups NoGroup ts r l = []
flat_groups (Group i gs hs) ts r (a, b, d, e, h, l, k) =
    (flat_groups gs b (RParen ∷ d) l ++ own a b) ++ flat_groups hs d r k

-- the same for a folded instruction
abbrev pub flat_folded : (i : InstructionModel) (gs : Groups) (ts r : List Token)
    → is_folded i gs ts r
    → List Token
flat_folded i gs ts r (a, b, e, h, l) = flat_groups gs b (RParen ∷ r) l ++ own a b

-- instructions without a hint
abbrev pub flat_value : List InstructionModel → ExpressionModel
flat_value is = record { instrs = is; hints = [] }

-- the number of tokens that pass the test
abbrev pub how_many : (Token → Bool) → List Token → ℕ
how_many test [] = 0
how_many test (x ∷ ts) = (if test x then 1 else 0) + how_many test ts

-- the test fails on the tokens of groups and hints, and on the keywords that can be added
abbrev pub PassesOwnAlone : (Token → Bool) → Type 0
PassesOwnAlone test =
    (test LParen ≡ false) × (test RParen ≡ false) × (test (keyword (codes "then")) ≡ false)
    × (test (keyword (codes "else")) ≡ false) × (test (keyword (codes "end")) ≡ false)
    × (test hint_name ≡ false) × ((v : ℕ) → test (String (v ∷ [])) ≡ false)

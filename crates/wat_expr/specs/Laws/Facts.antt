-- Laws: facts about instructions that items use, and the tokens that can follow a list of items.
use Rattle.std.proofs.Common.{◌≡◌, ◌+◌, ◌≤◌, ◌<◌, List, [], ◌∷◌, ◌++◌, length, Some, codes, ap, subst, sym, ◌∙◌, arith, length-append, append_assoc, true}
use Rattle.wat_instr.specs.Prelude.{Token, LParen, RParen, Keyword, String, AreBalanced, opens, closes, none_is_not, opens-append, closes-append, InstructionModel, instruction, instruction_none}
use Rattle.wat_tokens.specs.Laws.Production.{less_left}
use Rattle.wat_instr.specs.Laws.First.{instruction_first, instruction_consumes, instruction_not_then}
use Rattle.wat_expr.specs.Items.{reads, keyword, hint_name, Items, Nil, Plain, Folded, Block, IfThen, IfElse, Hinted, lists, sort, IsIf, is_branch}

-- ---- instructions

abbrev pub IsWord : Token → Type 0
IsWord (Keyword w) = Unit {0}
IsWord _ = ⊥

first_of_list : (x y : Token) (a b : List Token) → x ∷ a ≡ y ∷ b → x ≡ y
first_of_list x y a b e = cc

-- an instruction that a prefix spells is read from the tokens
pub read_of : (i : InstructionModel) (ts m : List Token) → reads i ts m
    → instruction.reads ts ≡ Some (i, m)
read_of i ts m (c, e, s) = rw e (instruction.complete i c m s)

pub reads_of : (i : InstructionModel) (ts m : List Token) → instruction.reads ts ≡ Some (i, m)
    → reads i ts m
reads_of i ts m e = instruction.sound ts (i, m) e

-- the first token of an instruction is a keyword
pub word_front : (i : InstructionModel) (t : Token) (u m : List Token) → reads i (t ∷ u) m
    → IsWord t
word_front i t u m h =
    let f = instruction_first (t ∷ u) (i, m) (read_of i (t ∷ u) m h) in
    subst IsWord (sym (first_of_list t (Keyword f.0) u f.1 f.2)) tt

pub reads_nothing : (i : InstructionModel) (m : List Token) → reads i [] m → ⊥
reads_nothing i m h = none_is_not (i, m) (sym instruction_none ∙ read_of i [] m h)

-- an instruction takes at least one token
pub reads_shorter : (i : InstructionModel) (ts m : List Token) → reads i ts m → length m < length ts
reads_shorter i ts m h = less_left instruction ts i m instruction_consumes (read_of i ts m h)

-- the parentheses of an instruction are balanced
pub reads_balanced : (i : InstructionModel) (ts m : List Token) → reads i ts m
    → opens ts + closes m ≡ closes ts + opens m
reads_balanced i ts m h =
    let e : AreBalanced h.0 = instruction.balanced i h.0 m h.2 in
    omega (arith, e, ap opens h.1, ap closes h.1, opens-append h.0 m, closes-append h.0 m)

-- an instruction is read from a prefix
pub reads_front : (i : InstructionModel) (ts m : List Token) → reads i ts m
    → (c : List Token) × (ts ≡ c ++ m)
reads_front i ts m h = (h.0, h.1)

-- `then` is not a mnemonic
pub reads_not_then : (i : InstructionModel) (ts m : List Token)
    → reads i (keyword (codes "then") ∷ ts) m → ⊥
reads_not_then i ts m h =
    none_is_not (i, m) (sym (instruction_not_then ts) ∙ read_of i (keyword (codes "then") ∷ ts) m h)

-- ---- the tokens that list items are a prefix with balanced parentheses

-- r is what is left of ts after a prefix with balanced parentheses; r is not longer than ts
pub record Between (ts r : List Token) : Type 0 where
  pub front : List Token
  pub is : ts ≡ front ++ r
  pub shorter : length r ≤ length ts
  pub balanced : opens ts + closes r ≡ closes ts + opens r

abbrev pub is_between : (ts c r : List Token) → ts ≡ c ++ r
    → opens ts + closes r ≡ closes ts + opens r → Between ts r
is_between ts c r e l =
    record {
      front = c;
      is = e;
      shorter = omega (arith, ap length e, length-append c r);
      balanced = l;
    }

append_behind : (a b m r : List Token) → m ≡ b ++ r → a ++ m ≡ (a ++ b) ++ r
append_behind a b m r e = rw e (simp append_assoc)

pub group_is : (a f y x d b r : List Token) → a ≡ f ++ b → b ≡ y ++ (RParen ∷ d) → d ≡ x ++ r
    → LParen ∷ a ≡ (LParen ∷ (f ++ (y ++ (RParen ∷ x)))) ++ r
group_is a f y x d b r e1 e2 e3 = rw (e1, e2, e3) (simp append_assoc)

then_is : (a f o t x b d e r : List Token) → a ≡ f ++ b
    → b ≡ o ++ (LParen ∷ keyword (codes "then") ∷ d) → d ≡ t ++ (RParen ∷ RParen ∷ e) → e ≡ x ++ r
    → LParen ∷ a ≡ (LParen ∷ (f ++ (o
    ++ (LParen ∷ keyword (codes "then") ∷ (t ++ (RParen ∷ RParen ∷ x)))))) ++ r
then_is a f o t x b d e r e1 e2 e3 e4 = rw (e1, e2, e3, e4) (simp append_assoc)

else_is : (a f o t u x b d e j r : List Token) → a ≡ f ++ b
    → b ≡ o ++ (LParen ∷ keyword (codes "then") ∷ d)
    → d ≡ t ++ (RParen ∷ LParen ∷ keyword (codes "else") ∷ e) → e ≡ u ++ (RParen ∷ RParen ∷ j)
    → j ≡ x ++ r → LParen ∷ a ≡ (LParen ∷ (f ++ (o
    ++ (LParen ∷ keyword (codes "then")
    ∷ (t ++ (RParen ∷ LParen ∷ keyword (codes "else") ∷ (u ++ (RParen ∷ RParen ∷ x)))))))) ++ r
else_is a f o t u x b d e j r e1 e2 e3 e4 e5 = rw (e1, e2, e3, e4, e5) (simp append_assoc)

grouped : (i : InstructionModel) (ts a b d r : List Token) → ts ≡ LParen ∷ a → reads i a b
    → Between b (RParen ∷ d) → Between d r → Between ts r
grouped i ts a b d r e h y x =
    let f = reads_front i a b h in
    let v = reads_balanced i a b h in
    is_between ts (LParen ∷ (f.0 ++ (y.front ++ (RParen ∷ x.front)))) r
    (e ∙ group_is a f.0 y.front x.front d b r f.1 y.is x.is)
    (let z = ap opens e in let w = ap closes e in omega (arith, z, w, v, y.balanced, x.balanced))

pub lists_between : (xs : Items) (ts r : List Token) → lists xs ts r → Between ts r
lists_between Nil ts r l = is_between ts [] r l (let e : ts ≡ r = l in rw e (omega arith))
lists_between (Plain i xs) ts r (m, h, l) =
    let f = reads_front i ts m h in
    let k = lists_between xs m r l in
    let v = reads_balanced i ts m h in
    is_between ts (f.0 ++ k.front) r (f.1 ∙ append_behind f.0 k.front m r k.is)
    (omega (arith, v, k.balanced))
lists_between (Folded i ys xs) ts r (a, b, d, e, s, h, ly, lx) =
    grouped i ts a b d r e h (lists_between ys b (RParen ∷ d) ly) (lists_between xs d r lx)
lists_between (Block i ys xs) ts r (a, b, d, e, s, h, ly, lx) =
    grouped i ts a b d r e h (lists_between ys b (RParen ∷ d) ly) (lists_between xs d r lx)
lists_between (IfThen i ops th xs) ts r (a, b, d, e, q, s, h, g, lo, lt, lx) =
    let f = reads_front i a b h in
    let v = reads_balanced i a b h in
    let o = lists_between ops b _ lo in
    let t = lists_between th d _ lt in
    let k = lists_between xs e r lx in
    is_between ts (LParen ∷ (f.0 ++ (o.front
    ++ (LParen ∷ keyword (codes "then") ∷ (t.front ++ (RParen ∷ RParen ∷ k.front)))))) r
    (q ∙ then_is a f.0 o.front t.front k.front b d e r f.1 o.is t.is k.is)
    (let z = ap opens q in let y = ap closes q in omega
    (arith, z, y, v, o.balanced, t.balanced, k.balanced))
lists_between (IfElse i ops th el xs) ts r (a, b, d, e, j, q, s, h, g, lo, lt, le, lx) =
    let f = reads_front i a b h in
    let v = reads_balanced i a b h in
    let o = lists_between ops b _ lo in
    let t = lists_between th d _ lt in
    let u = lists_between el e _ le in
    let k = lists_between xs j r lx in
    is_between ts (LParen ∷ (f.0 ++ (o.front ++ (LParen ∷ keyword (codes "then")
    ∷ (t.front ++ (RParen ∷ LParen ∷ keyword (codes "else")
    ∷ (u.front ++ (RParen ∷ RParen ∷ k.front)))))))) r
    (q ∙ else_is a f.0 o.front t.front u.front k.front b d e j r f.1 o.is t.is u.is k.is)
    (let z = ap opens q in let y = ap closes q in omega
    (arith, z, y, v, o.balanced, t.balanced, u.balanced, k.balanced))
lists_between (Hinted v xs) ts r (d, e, lt, g, l) =
    let k = lists_between xs d r l in
    is_between ts (LParen ∷ hint_name ∷ String (v ∷ []) ∷ RParen ∷ k.front) r
    (e ∙ ap (λ (u : List Token). LParen ∷ hint_name ∷ String (v ∷ []) ∷ RParen ∷ u) k.is)
    (let z = ap opens e in let y = ap closes e in omega (arith, z, y, k.balanced))

-- an `if` can follow a hint
pub if_branch : (i : InstructionModel) → sort i ≡ IsIf → is_branch i ≡ true
if_branch i e = grind arith

-- Hints rise, no hint is lost, and an expression has no more instructions than tokens.
use Rattle.std.proofs.Common.{◌≡◌, ℕ, ◌+◌, ◌≤◌, List, [], ◌∷◌, ◌++◌, length, Option, Some, None, refl, ap, subst, arith, length-append}
use Rattle.wat_expr.specs.Prelude.{Token, RParen, InstructionModel, else_instr, end_instr, ExpressionModel, expression_spells, reads_shorter, Groups, NoGroup, Group, groups, unfolded_groups, folded_spells, Items, Nil, Plain, Folded, Block, IfThen, IfElse, Hinted, lists, unfolded, hints, hints_behind, mark, Fits}
use Rattle.wat_expr.specs.Items.{count_hints}
use Rattle.wat_expr.specs.Rising.{Rises}

later : (a b e : ℕ) (hs : List (ℕ × ℕ)) → a ≤ b → Rises b hs e → Rises a hs e
later a b e [] le r = omega arith
later a b e (h ∷ hs) le r = let x = r.0 in (omega arith, r.1)

joins : (b m e : ℕ) (hs gs : List (ℕ × ℕ)) → Rises b hs m → Rises m gs e → Rises b (hs ++ gs) e
joins b m e [] gs r s = later b m e gs r s
joins b m e (h ∷ hs) gs r s = (r.0, joins (h.0 + 1) m e hs gs r.1 s)

one_mark : (p : Option ℕ) (b : ℕ) → Rises b (mark p b) (b + 1)
one_mark None b = omega arith
one_mark (Some v) b = (omega arith, omega arith)

till : (b e f : ℕ) (hs : List (ℕ × ℕ)) → e ≡ f → Rises b hs e → Rises b hs f
till b e f hs q r = subst (λ (e : ℕ). Rises b hs e) q r

-- an added instruction without a hint
skips : (b e : ℕ) (hs : List (ℕ × ℕ)) → Rises b hs e → Rises b hs (e + 1)
skips b e [] r = omega arith
skips b e (h ∷ hs) r = (r.0, skips (h.0 + 1) e hs r.1)

-- the number of instructions
long_block : (i : InstructionModel) (ys xs : Items) → length (unfolded (Block i ys xs)) ≡ length (unfolded ys) + length (unfolded xs) + 2
long_block i ys xs = omega (arith, length-append (i ∷ (unfolded ys ++ end_instr ∷ [])) (unfolded xs), length-append (unfolded ys) (end_instr ∷ []))

long_then : (i : InstructionModel) (ops th xs : Items) → length (unfolded (IfThen i ops th xs)) ≡ length (unfolded ops) + length (unfolded th) + length (unfolded xs) + 2
long_then i ops th xs =
    let t = unfolded th ++ end_instr ∷ [] in omega (arith, length-append (unfolded ops ++ (i ∷ t)) (unfolded xs), length-append (unfolded ops) (i ∷ t), length-append (unfolded th) (end_instr ∷ []))

long_else : (i : InstructionModel) (ops th el xs : Items) → length (unfolded (IfElse i ops th el xs)) ≡ length (unfolded ops) + length (unfolded th) + length (unfolded el) + length (unfolded xs) + 3
long_else i ops th el xs =
    let u = else_instr ∷ (unfolded el ++ end_instr ∷ []) in
    let t = i ∷ (unfolded th ++ u) in
    omega (arith, length-append (unfolded ops ++ t) (unfolded xs), length-append (unfolded ops) t, length-append (unfolded th) u, length-append (unfolded el) (end_instr ∷ []))

hints_rise : (p : Option ℕ) (xs : Items) (b : ℕ) → Rises b (hints_behind p xs b) (b + length (unfolded xs))
hints_rise p Nil b = omega arith
hints_rise p (Plain i xs) b =
    let q : b + 1 + length (unfolded xs) ≡ b + length (unfolded (Plain i xs)) = omega arith in
    till b _ _ _ q (joins _ _ _ _ _ (one_mark p b) (hints_rise None xs (b + 1)))
hints_rise p (Folded i ys xs) b =
    let m = b + length (unfolded ys) in
    let q : m + 1 + length (unfolded xs) ≡ b + length (unfolded (Folded i ys xs)) = omega (arith, length-append {A = InstructionModel}) in
    till b _ _ _ q (joins _ _ _ _ _ (joins _ _ _ _ _ (hints_rise None ys b) (one_mark p m)) (hints_rise None xs (m + 1)))
hints_rise p (Block i ys xs) b =
    let m = b + 1 + length (unfolded ys) in
    let q : m + 1 + length (unfolded xs) ≡ b + length (unfolded (Block i ys xs)) = omega (arith, long_block i ys xs) in
    till b _ _ _ q (joins _ _ _ _ _ (skips _ _ _ (joins _ _ _ _ _ (one_mark p b) (hints_rise None ys (b + 1)))) (hints_rise None xs (m + 1)))
hints_rise p (IfThen i ops th xs) b =
    let h = b + length (unfolded ops) in
    let m = h + 1 + length (unfolded th) in
    let q : m + 1 + length (unfolded xs) ≡ b + length (unfolded (IfThen i ops th xs)) = omega (arith, long_then i ops th xs) in
    till b _ _ _ q (joins _ _ _ _ _ (skips _ _ _ (joins _ _ _ _ _ (hints_rise None ops b) (joins _ _ _ _ _ (one_mark p h) (hints_rise None th (h + 1))))) (hints_rise None xs (m + 1)))
hints_rise p (IfElse i ops th el xs) b =
    let h = b + length (unfolded ops) in
    let m = h + 1 + length (unfolded th) in
    let n = m + 1 + length (unfolded el) in
    let q : n + 1 + length (unfolded xs) ≡ b + length (unfolded (IfElse i ops th el xs)) = omega (arith, long_else i ops th el xs) in
    till b _ _ _ q (joins _ _ _ _ _ (skips _ _ _ (joins _ _ _ _ _ (hints_rise None ops b) (joins _ _ _ _ _ (one_mark p h) (joins _ _ _ _ _ (skips _ _ _ (hints_rise None th (h + 1))) (hints_rise None el (m + 1)))))) (hints_rise None xs (n + 1)))
hints_rise p (Hinted v xs) b = hints_rise (Some v) xs b

pub spelled_hints_rise : (v : ExpressionModel) (c r : List Token) → expression_spells v c r → Rises 0 v.hints (length v.instrs)
spelled_hints_rise v c r (xs, l, k, e) =
    let n : 0 + length (unfolded xs) ≡ length (unfolded xs) = omega arith in
    rw e (till 0 (0 + length (unfolded xs)) (length (unfolded xs)) (hints xs 0) n (hints_rise None xs 0))

-- ---- no hint is lost

-- the number of hints directly before the first item: 0 or 1
abbrev pending : Option ℕ → ℕ
pending None = 0
pending (Some v) = 1

as_marked : (p : Option ℕ) (b : ℕ) → length (mark p b) ≡ pending p
as_marked None b = refl
as_marked (Some v) b = refl

as_many : (p : Option ℕ) (xs : Items) (b : ℕ) (t r : List Token) → Fits p xs → lists xs t r → length (hints_behind p xs b) ≡ pending p + count_hints xs
as_many None Nil b t r f l = refl
as_many (Some v) Nil b t r f l = absurd f
as_many p (Plain i xs) b t r f (m, h, l) = omega (arith, as_many None xs (b + 1) m r tt l, as_marked p b, length-append {A = ℕ × ℕ})
as_many p (Folded i ys xs) b t r f (u, v, w, e, k, h, ly, lx) =
    let n = b + length (unfolded ys) in
    omega (arith, as_many None ys b v (RParen ∷ w) tt ly, as_many None xs (n + 1) w r tt lx, as_marked p n, length-append {A = ℕ × ℕ})
as_many p (Block i ys xs) b t r f (u, v, w, e, k, h, ly, lx) =
    omega (arith, as_many None ys (b + 1) v (RParen ∷ w) tt ly, as_many None xs (b + 1 + length (unfolded ys) + 1) w r tt lx, as_marked p b, length-append {A = ℕ × ℕ})
as_many p (IfThen i ops th xs) b t r f (u, v, w, x, e, k, h, g, lo, lt, lx) =
    let n = b + length (unfolded ops) in
    let a = as_many None ops b v _ tt lo in
    let c = as_many None th (n + 1) w _ tt lt in
    omega (arith, a, c, as_many None xs (n + 1 + length (unfolded th) + 1) x r tt lx, as_marked p n, length-append {A = ℕ × ℕ})
as_many p (IfElse i ops th el xs) b t r f (u, v, w, x, y, e, k, h, g, lo, lt, le, lx) =
    let n = b + length (unfolded ops) in
    let o = n + 1 + length (unfolded th) + 1 in
    let a = as_many None ops b v _ tt lo in
    let c = as_many None th (n + 1) w _ tt lt in
    let d = as_many None el o x _ tt le in
    omega (arith, a, c, d, as_many None xs (o + length (unfolded el) + 1) y r tt lx, as_marked p n, length-append {A = ℕ × ℕ})
as_many None (Hinted v xs) b t r f (d, e, lt, g, l) = omega (arith, as_many (Some v) xs b d r g l)
as_many (Some u) (Hinted v xs) b t r f l = absurd f

pub none_lost : (xs : Items) (t r : List Token) → lists xs t r → length (hints xs 0) ≡ count_hints xs
none_lost xs t r l = omega (arith, as_many None xs 0 t r tt l)

-- ---- no more instructions than tokens

fewer_than_tokens : (xs : Items) (t r : List Token) → lists xs t r → length (unfolded xs) + length r ≤ length t
fewer_than_tokens Nil t r l = rw l (omega arith)
fewer_than_tokens (Plain i xs) t r (m, h, l) = omega (arith, reads_shorter i t m h, fewer_than_tokens xs m r l)
fewer_than_tokens (Folded i ys xs) t r (u, v, w, e, k, h, ly, lx) =
    omega (arith, ap length e, length-append {A = InstructionModel}, reads_shorter i u v h, fewer_than_tokens ys v (RParen ∷ w) ly, fewer_than_tokens xs w r lx)
fewer_than_tokens (Block i ys xs) t r (u, v, w, e, k, h, ly, lx) =
    omega (arith, ap length e, long_block i ys xs, reads_shorter i u v h, fewer_than_tokens ys v (RParen ∷ w) ly, fewer_than_tokens xs w r lx)
fewer_than_tokens (IfThen i ops th xs) t r (u, v, w, x, e, k, h, g, lo, lt, lx) =
    let a = fewer_than_tokens ops v _ lo in
    let b = fewer_than_tokens th w _ lt in
    omega (arith, ap length e, long_then i ops th xs, reads_shorter i u v h, a, b, fewer_than_tokens xs x r lx)
fewer_than_tokens (IfElse i ops th el xs) t r (u, v, w, x, y, e, k, h, g, lo, lt, le, lx) =
    let a = fewer_than_tokens ops v _ lo in
    let b = fewer_than_tokens th w _ lt in
    let c = fewer_than_tokens el x _ le in
    omega (arith, ap length e, long_else i ops th el xs, reads_shorter i u v h, a, b, c, fewer_than_tokens xs y r lx)
fewer_than_tokens (Hinted v xs) t r (d, e, lt, g, l) = omega (arith, ap length e, fewer_than_tokens xs d r l)

pub spelled_fewer : (v : ExpressionModel) (c r : List Token) → expression_spells v c r → length v.instrs ≤ length c
spelled_fewer v c r (xs, l, k, e) =
    let f : length v.instrs ≡ length (unfolded xs) = ap (λ (x : ExpressionModel). length x.instrs) e in
    omega (arith, f, fewer_than_tokens xs (c ++ r) r l, length-append c r)

groups_fewer : (gs : Groups) (t r : List Token) → groups gs t r → length (unfolded_groups gs) + length r ≤ length t
groups_fewer NoGroup t r l = rw l (omega arith)
groups_fewer (Group i gs hs) t r (u, v, w, e, h, l, k) =
    omega (arith, ap length e, length-append {A = InstructionModel}, reads_shorter i u v h, groups_fewer gs v (RParen ∷ w) l, groups_fewer hs w r k)

pub folded_fewer : (v : ExpressionModel) (c r : List Token) → folded_spells v c r → length v.instrs ≤ length c
folded_fewer v c r (i, gs, (a, b, e, h, l), k) =
    let f : length v.instrs ≡ length (unfolded_groups gs ++ i ∷ []) = ap (λ (x : ExpressionModel). length x.instrs) k in
    omega (arith, f, reads_shorter i a b h, groups_fewer gs b (RParen ∷ r) l, ap length e, length-append c r, length-append {A = InstructionModel})

-- Laws: each expression that the tokens of a text spell can be written.
use Rattle.std.proofs.Common.{◌≡◌, ℕ, ◌+◌, ◌<◌, ◌≤◌, true, false, ◌==◌, List, [], ◌∷◌, ◌++◌, length, take, drop, Option, Some, None, codes, refl, ap, subst, sym, ◌∙◌, append_assoc, append-nil, arith}
use Rattle.std.proofs.lemmas.List.{take-append-le}
use Rattle.wat_expr.specs.Prelude.{or_left, lt-ltb, nat_tests, take-append-drop, take-append_seam, Token, LParen, RParen, String, InstructionModel, is_if, is_br_if, else_instr, end_instr, ExpressionModel, value_of, expression, Items, Nil, Plain, Folded, Block, IfThen, IfElse, Hinted, lists, unfolded, hints_behind, is_branch, mark, BeginsWithBranch, reads, keyword, hint_name, lists_between, if_branch, length-append}
use Rattle.wat_print.specs.Laws.Prelude.{OnlyPrintable, each_front, same_number}
use Rattle.wat_print_instr.specs.Prelude.{is_given, each, step_of, printable_step, steps_from, printable_expression, passes, printable_instruction}
use Rattle.wat_print_instr.specs.Laws.Expression.{step_more}
use Rattle.wat_print_instr.specs.Laws.Instruction.{instruction_only}

-- ---- tokens that a text can give

-- the tokens before the last n are given
record Given (n : ℕ) (ts : List Token) : Type 0 where
  front : (x y : List Token) → ts ≡ x ++ y → n ≤ length y → each is_given x ≡ true

given_first : (c r : List Token) → each is_given c ≡ true → Given (length r) (c ++ r)
given_first c r a = record {
  front = λ x y e l. (
      let n = length x in
      let k : n ≤ length c =
      omega (arith, l, ap length e, length-append c r, length-append x y) in
      let same : take n c ≡ x =
      sym (take-append-le n c r k) ∙ ap (take n) e ∙ take-append_seam x y in
      subst (λ (u : List Token). each is_given u ≡ true) same
      (each_front is_given (take n c) (drop n c)
      (subst (λ (u : List Token). each is_given u ≡ true) (sym (take-append-drop n c)) a)).0);
}

given_behind : {n : ℕ} {ts : List Token} → Given n ts → (x y : List Token) → ts ≡ x ++ y → Given n y
given_behind g x y e = record {
  front = λ u v f l. (each_front is_given x u (g.front (x ++ u) v
      (e ∙ ap (λ (t : List Token). x ++ t) f ∙ sym (append_assoc x u v)) l)).1;
}

-- the tokens after items and the tokens k
part : {n : ℕ} (xs : Items) (ts k d : List Token) → lists xs ts (k ++ d) → Given n ts
    → (length d ≤ length ts) × Given n d
part xs ts k d l g =
    let f = lists_between xs ts (k ++ d) l in (
      omega (arith, f.shorter, length-append k d),
      given_behind (given_behind g f.front (k ++ d) f.is) k d refl,
    )

-- ---- instructions that can be written with their hints

-- no hint has an index below b
abbrev LowAt : ℕ → List (ℕ × ℕ) → Type 0
LowAt b [] = Unit {0}
LowAt b (h ∷ hs) = b ≤ h.0

-- the instructions from the index b on can be written with their hints
record Ready (b : ℕ) (is : List InstructionModel) (hs : List (ℕ × ℕ)) : Type 0 where
  printable : passes (each printable_step) (steps_from b is hs) ≡ true
  low : LowAt b hs

one_ready : (b : ℕ) (h : Option ℕ) (i : InstructionModel) (is : List InstructionModel) (hs : List (ℕ
    × ℕ))
    → printable_step (step_of h i) ≡ true → Ready (b + 1) is hs → Ready b (i ∷ is) (mark h b ++ hs)
one_ready b (Some v) i is hs f r = record {
  printable = rw (same_number b) (step_more (Some v) i (steps_from (b + 1) is hs) f r.printable);
  low = omega arith;
}
one_ready b None i is [] f r = record {
  printable = step_more None i (steps_from (b + 1) is []) f r.printable;
  low = tt;
}
one_ready b None i is (k ∷ hs) f r =
    let l : b + 1 ≤ k.0 = r.low in
    let e : (k.0 == b) ≡ false = grind (arith, nat_tests, l) in record {
      printable = rw e (step_more None i (steps_from (b + 1) is (k ∷ hs)) f r.printable);
      low = omega (arith, l);
    }

-- The instructions from the index b on, up to the index c, can be written with their hints: before
-- any instructions from c on that can be written with theirs.
record Fits (b c : ℕ) (is : List InstructionModel) (hs : List (ℕ × ℕ)) : Type 0 where
  until : c ≡ b + length is
  before : (js : List InstructionModel) (ks : List (ℕ × ℕ)) → Ready c js ks
      → Ready b (is ++ js) (hs ++ ks)

none : (b : ℕ) → Fits b b [] []
none b = record { until = omega arith; before = λ js ks r. r }

one : (b : ℕ) (h : Option ℕ) (i : InstructionModel) → printable_step (step_of h i) ≡ true
    → Fits b (b + 1) (i ∷ []) (mark h b)
one b h i f = record { until = refl; before = λ js ks r. one_ready b h i js ks f r }

both : {b c d : ℕ} {is js : List InstructionModel} {hs ks : List (ℕ × ℕ)} → Fits b c is hs
    → Fits c d js ks
    → Fits b d (is ++ js) (hs ++ ks)
both {is = is} {js = js} {hs = hs} {ks = ks} f g = record {
  until = omega (arith, f.until, g.until, length-append is js);
  before = λ ls ms r. rw (append_assoc is js ls, append_assoc hs ks ms)
      (f.before (js ++ ls) (ks ++ ms) (g.before ls ms r));
}

-- an `end` after the instructions
closed : {b c : ℕ} {is : List InstructionModel} {hs : List (ℕ × ℕ)} → Fits b c is hs
    → Fits b (c + 1) (is ++ end_instr ∷ []) hs
closed {b = b} {c = c} {is = is} {hs = hs} f =
    subst (λ (l : List (ℕ × ℕ)). Fits b (c + 1) (is ++ end_instr ∷ []) l) (append-nil hs)
    (both f (one c None end_instr refl))

counted : {b c : ℕ} {is : List InstructionModel} {hs : List (ℕ × ℕ)} → Fits b c is hs
    → Fits b (b + length is) is hs
counted {b = b} {is = is} {hs = hs} f = subst (λ (n : ℕ). Fits b n is hs) f.until f

-- ---- the instructions of items

abbrev HintBefore : Option ℕ → Items → Type 0
HintBefore (Some v) xs = (v < 2) × BeginsWithBranch xs
HintBefore None xs = Unit {0}

-- the instruction of the first item, after the hint before the item
hinted_printable : (p : Option ℕ) (xs : Items) (i : InstructionModel) → HintBefore p xs
    → (BeginsWithBranch xs → is_branch i ≡ true) → printable_instruction i ≡ true
    → printable_step (step_of p i) ≡ true
hinted_printable (Some v) xs i h b f = rw (b h.1, lt-ltb v 2 h.0, f) refl
hinted_printable None xs i h b f = f

module _ (n : ℕ) where
  read_printable : (i : InstructionModel) (ts m : List Token) → reads i ts m → Given n ts
      → n ≤ length m
      → printable_instruction i ≡ true
  read_printable i ts m s g l = instruction_only.holds i s.0 m (g.front s.0 m s.1 l) s.2

  -- p: the hint directly before the first item
  items_fit : (p : Option ℕ) (xs : Items) (ts r : List Token) (b : ℕ) → lists xs ts r → Given n ts
      → n ≤ length r → HintBefore p xs
      → Fits b (b + length (unfolded xs)) (unfolded xs) (hints_behind p xs b)
  items_fit p Nil ts r b l g k h = counted (none b)
  items_fit p (Plain i xs) ts r b (m, s, l) g k h =
      let x = part xs m [] r l (given_behind g s.0 m s.1) in
      let own = read_printable i ts m s g (omega arith) in
      counted (both (one b p i (hinted_printable p (Plain i xs) i h (λ e. e) own))
      (items_fit None xs m r (b + 1) l (given_behind g s.0 m s.1) k tt))
  items_fit p (Folded i ys xs) ts r b (a, u, d, e, s, q, ly, lx) g k h =
      let f = given_behind g (LParen ∷ []) a e in
      let o = given_behind f q.0 u q.1 in
      let y = part ys u (RParen ∷ []) d ly o in
      let x = part xs d [] r lx y.1 in
      let own = read_printable i a u q f (omega arith) in
      let head = b + length (unfolded ys) in
      counted (both (both (items_fit None ys u (RParen ∷ d) b ly o (omega arith) tt)
      (one head p i (hinted_printable p (Folded i ys xs) i h
      (λ t. or_left (is_br_if i.row) (is_if i.row) t) own)))
      (items_fit None xs d r (head + 1) lx y.1 k tt))
  items_fit p (Block i ys xs) ts r b (a, u, d, e, s, q, ly, lx) g k h =
      let f = given_behind g (LParen ∷ []) a e in
      let o = given_behind f q.0 u q.1 in
      let y = part ys u (RParen ∷ []) d ly o in
      let x = part xs d [] r lx y.1 in
      let own = read_printable i a u q f (omega arith) in
      counted (both (both (one b p i (hinted_printable p (Block i ys xs) i h (λ t. absurd t) own))
      (closed (items_fit None ys u (RParen ∷ d) (b + 1) ly o (omega arith) tt)))
      (items_fit None xs d r (b + 1 + length (unfolded ys) + 1) lx y.1 k tt))
  items_fit p (IfThen i ops th xs) ts r b (a, u, d, e, q, s, w, z, lo, lt, lx) g k h =
      let f = given_behind g (LParen ∷ []) a q in
      let o = given_behind f w.0 u w.1 in
      let t = part ops u (LParen ∷ keyword (codes "then") ∷ []) d lo o in
      let y = part th d (RParen ∷ RParen ∷ []) e lt t.1 in
      let x = part xs e [] r lx y.1 in
      let own = read_printable i a u w f (omega arith) in
      let head = b + length (unfolded ops) in
      counted (both (both (items_fit None ops u _ b lo o (omega arith) tt)
      (both (one head p i (hinted_printable p (IfThen i ops th xs) i h
      (λ _. if_branch i s) own))
      (closed (items_fit None th d _ (head + 1) lt t.1 (omega arith) tt))))
      (items_fit None xs e r (head + 1 + length (unfolded th) + 1) lx y.1 k tt))
  items_fit p (IfElse i ops th el xs) ts r b (a, u, d, e, v, q, s, w, z, lo, lt, le, lx) g k h =
      let f = given_behind g (LParen ∷ []) a q in
      let o = given_behind f w.0 u w.1 in
      let t = part ops u (LParen ∷ keyword (codes "then") ∷ []) d lo o in
      let j = part th d (RParen ∷ LParen ∷ keyword (codes "else") ∷ []) e lt t.1 in
      let y = part el e (RParen ∷ RParen ∷ []) v le j.1 in
      let x = part xs v [] r lx y.1 in
      let own = read_printable i a u w f (omega arith) in
      let head = b + length (unfolded ops) in
      let turn = head + 1 + length (unfolded th) in
      counted (both (both (items_fit None ops u _ b lo o (omega arith) tt)
      (both (one head p i (hinted_printable p (IfElse i ops th el xs) i h
      (λ _. if_branch i s) own))
      (both (items_fit None th d _ (head + 1) lt t.1 (omega arith) tt)
      (both (one turn None else_instr refl)
      (closed (items_fit None el e _ (turn + 1) le j.1 (omega arith) tt))))))
      (items_fit None xs v r (turn + 1 + length (unfolded el) + 1) lx y.1 k tt))
  items_fit p (Hinted v xs) ts r b (d, e, lt, q, l) g k h =
      let c = LParen ∷ hint_name ∷ String (v ∷ []) ∷ RParen ∷ [] in
      items_fit (Some v) xs d r b l (given_behind g c d e) k (lt, q)

-- ---- expressions

items_printable : (xs : Items) (c r : List Token) → each is_given c ≡ true → lists xs (c ++ r) r
    → printable_expression (value_of xs) ≡ true
items_printable xs c r a l =
    let f = items_fit (length r) None xs (c ++ r) r 0 l (given_first c r a) (omega arith) tt in
    let e = f.before [] [] (record { printable = refl; low = tt }) in
    (rw (append-nil (unfolded xs), append-nil (hints_behind None xs 0)) at e).printable

expression_holds : (e : ExpressionModel) (c r : List Token) → each is_given c ≡ true
    → expression.spells e c r → printable_expression e ≡ true
unfolding expression
expression_holds e c r a s =
    subst (λ (v : ExpressionModel). printable_expression v ≡ true) (sym s.3) (items_printable s.0 c
    r a s.1)

pub expression_only : OnlyPrintable expression printable_expression
expression_only = record { holds = expression_holds }

-- The output after the items, turn by turn, has their unfolded instructions, hints and numbers.
use Rattle.std.proofs.Common.{◌≡◌, ℕ, suc, ◌+◌, ◌≤◌, [], ◌∷◌, ◌++◌, length, Option, Some, None, Bool, true, false, refl, sym, ap, subst, ◌∙◌, arith, append_assoc, length-append, max, if◌then◌else◌}
use Rattle.wat_expr.specs.Prelude.{append-nil, InstructionModel, else_instr, end_instr, Flat, push, Items, Nil, Plain, Folded, Block, IfThen, IfElse, Hinted, unfolded, hints_behind, TalliedFlat, item_more, noted, emit}
use Rattle.wat_expr.specs.Flat.{one_more}
use Rattle.wat_expr.specs.Items.{count, depth, deep}
use Rattle.wat_expr.specs.Progress.{with_instr}

-- one span for each instruction, if spans are kept
abbrev pub Spanned : Bool → Flat → Type 0
Spanned keeps f = f.spans ≡ (if keeps then Some (length f.instrs) else None)

pub spanned : (keeps : Bool) (p : Option ℕ) (i : InstructionModel) (f : Flat) → Spanned keeps f → Spanned keeps (push p i f)
spanned true p i f s = ap one_more s ∙ ap (λ (n : ℕ). Some n) (omega (arith, length-append f.instrs (i ∷ [])))
spanned false p i f s = ap one_more s

abbrev run : ℕ → ℕ → Option ℕ → Items → TalliedFlat → TalliedFlat
run k h p xs f = emit k h p xs (noted k h f)

-- g counts the items, at least their depth, and the maximal number of heads at once
abbrev Numbers : ℕ → ℕ → Items → TalliedFlat → TalliedFlat → Type 0
Numbers k h xs f g = (g.items ≡ f.items + count xs) × (max f.peak (k + depth xs) ≤ g.peak) × (g.held ≡ max f.held (h + deep xs))

-- g is f with the output of the items
abbrev Came : ℕ → ℕ → Option ℕ → Items → TalliedFlat → TalliedFlat → Type 0
Came k h p xs f g =
    (g.out.instrs ≡ f.out.instrs ++ unfolded xs) × (g.out.hints ≡ f.out.hints ++ hints_behind p xs (length f.out.instrs)) × ((keeps : Bool) → Spanned keeps f.out → Spanned keeps g.out) × Numbers k h xs f g

held_two : (f h a b o t : ℕ) → o ≡ max (max f h) (suc h + a) → t ≡ max o (h + b) → t ≡ max f (h + max (suc a) b)
held_two f h a b o t d e = omega arith

held_next : (f h y c t l : ℕ) → t ≡ max f (h + y) → l ≡ max (max t h) (h + c) → l ≡ max f (h + max y c)
held_next f h y c t l d e = omega arith

max_assoc : (a b c : ℕ) → max (max a b) c ≡ max a (max b c)
max_assoc a b c = omega arith

came : (k h : ℕ) (p : Option ℕ) (xs : Items) (f : TalliedFlat) → Came k h p xs f (run k h p xs f)
came k h p Nil f = (sym (append-nil f.out.instrs), sym (append-nil f.out.hints), (λ b s. s), omega arith)
came k h p (Plain i xs) f =
    let x = came k h None xs (with_instr p i (item_more (noted k h f))) in
    (x.0 ∙ simp append_assoc, x.1 ∙ simp length-append (simp append_assoc), (λ b s. x.2 b (spanned b p i f.out s)), omega (arith, x.3))
came k h p (Folded i ys xs) f =
    let e = item_more (noted k h f) in
    let g = run (suc k) (suc h) None ys e in
    let y = came (suc k) (suc h) None ys e in
    let x = came k h None xs (with_instr p i g) in
    (x.0 ∙ rw y.0 (simp append_assoc), x.1 ∙ rw (y.1, y.0) (simp length-append (simp append_assoc)), (λ b s. x.2 b (spanned b p i g.out (y.2 b s))), omega (arith, x.3, y.3))
came k h p (Block i ys xs) f =
    let e = with_instr p i (item_more (noted k h f)) in
    let g = run (suc k) h None ys e in
    let y = came (suc k) h None ys e in
    let x = came k h None xs (with_instr None end_instr g) in
    (x.0 ∙ rw y.0 (simp append_assoc), x.1 ∙ rw (y.1, y.0) (simp length-append (simp (append_assoc, append-nil))), (λ b s. x.2 b (spanned b None end_instr g.out (y.2 b (spanned b p i f.out s)))), omega (arith, x.3, y.3))
came k h p (IfThen i ops th xs) f =
    let e = item_more (noted k h f) in
    let g = run (suc k) (suc h) None ops e in
    let j = run (suc (suc k)) h None th (with_instr p i g) in
    let o = came (suc k) (suc h) None ops e in
    let t = came (suc (suc k)) h None th (with_instr p i g) in
    let x = came k h None xs (with_instr None end_instr (noted (suc k) h j)) in
    (x.0 ∙ rw (t.0, o.0) (simp append_assoc), x.1 ∙ rw (t.1, t.0, o.1, o.0) (simp length-append (simp (append_assoc, append-nil))), (λ b s. x.2 b (spanned b None end_instr j.out (t.2 b (spanned b p i g.out (o.2 b s))))), omega (arith, x.3, t.3, o.3))
came k h p (IfElse i ops th el xs) f =
    let e = item_more (noted k h f) in
    let g = run (suc k) (suc h) None ops e in
    let j = run (suc (suc k)) h None th (with_instr p i g) in
    let v = with_instr None else_instr (noted (suc k) h j) in
    let w = run (suc (suc k)) h None el v in
    let o = came (suc k) (suc h) None ops e in
    let t = came (suc (suc k)) h None th (with_instr p i g) in
    let l = came (suc (suc k)) h None el v in
    let x = came k h None xs (with_instr None end_instr (noted (suc k) h w)) in
    let n = held_next f.held h _ (deep el) j.held w.held (held_two f.held h (deep ops) (deep th) g.held j.held o.3.2 t.3.2) l.3.2 in (
      x.0 ∙ rw (l.0, t.0, o.0) (simp append_assoc),
      x.1 ∙ rw (l.1, l.0, t.1, t.0, o.1, o.0) (simp length-append (simp (append_assoc, append-nil))),
      (λ b s. x.2 b (spanned b None end_instr w.out (l.2 b (spanned b None else_instr j.out (t.2 b (spanned b p i g.out (o.2 b s))))))),
      (omega (arith, x.3.0, l.3.0, t.3.0, o.3.0), omega (arith, x.3.1, l.3.1, t.3.1, o.3.1), held_next f.held h _ (deep xs) w.held _ (rw (max_assoc (suc (deep ops)) (deep th) (deep el)) at n) x.3.2),
    )
came k h p (Hinted v xs) f = let x = came k h (Some v) xs (item_more (noted k h f)) in (x.0, x.1, x.2, omega (arith, x.3))

pub flat_out : (xs : Items) (f : TalliedFlat) → Came 0 0 None xs f (emit 0 0 None xs f)
flat_out xs f = let p : max f.peak 0 ≡ f.peak = omega arith in let q : max f.held 0 ≡ f.held = omega arith in
    let e : noted 0 0 f ≡ f = rw (p, q) refl in subst (λ (g : TalliedFlat). Came 0 0 None xs f (emit 0 0 None xs g)) e (came 0 0 None xs f)

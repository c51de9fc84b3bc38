-- Laws: the reader of items agrees with `lists`.
use Rattle.std.proofs.Common.{◌≡◌, ℕ, zero, suc, ◌<◌, ◌≤◌, nat_lt, true, false, if◌then◌else◌, List, [], ◌∷◌, ◌++◌, length, Some, None, codes, refl, ap, subst, sym, ◌∙◌, arith}
use Rattle.wat_instr.specs.Prelude.{lt-ltb, ltb-true, bytes_eq, bytes_decides, Token, LParen, RParen, Keyword, Annotation, String, AreBalanced, Read, Front, bind, some_of, none_of, ends, some_is, none_is_not, by_test, bind_some, opens-append, closes-append, InstructionModel, instruction}
use Rattle.wat_expr.specs.Items.{Sort, sort, IsBlock, IsIf, IsOther, reads, keyword, hint_name, Items, Nil, Plain, Folded, Block, IfThen, IfElse, Hinted, AreGroups, BeginsWithBranch, lists}
use Rattle.wat_expr.specs.Facts.{Stops}
use Rattle.wat_expr.specs.Expression.{ExpressionModel, value_of, expression_spells}
use Rattle.wat_expr.specs.Reading.{are_groups, begins_branch, closed, opened, more_by, group_by, arms_by, if_by, sort_by, hint_by, paren_by, items_by, items_at, to_the_end, expression_reads}
use Rattle.wat_expr.specs.Laws.Facts.{reads_of, reads_not_then, read_of, word_front, reads_nothing, reads_shorter, lists_between}

-- ---- read items are listed

are_groups_so : (xs : Items) → are_groups xs ≡ true → AreGroups xs
are_groups_so Nil e = tt
are_groups_so (Plain i xs) e = absurd cc
are_groups_so (Folded i ys xs) e = (tt, are_groups_so xs e)
are_groups_so (Block i ys xs) e = (tt, are_groups_so xs e)
are_groups_so (IfThen i ops th xs) e = (tt, are_groups_so xs e)
are_groups_so (IfElse i ops th el xs) e = (tt, are_groups_so xs e)
are_groups_so (Hinted v xs) e = (tt, are_groups_so xs e)

begins_branch_so : (xs : Items) → begins_branch xs ≡ true → BeginsWithBranch xs
begins_branch_so Nil e = absurd cc
begins_branch_so (Plain i xs) e = e
begins_branch_so (Folded i ys xs) e = e
begins_branch_so (Block i ys xs) e = absurd cc
begins_branch_so (IfThen i ops th xs) e = tt
begins_branch_so (IfElse i ops th el xs) e = tt
begins_branch_so (Hinted v xs) e = absurd cc

pub shut_is : (t : List Token) (x : Unit {0} × List Token) → closed t ≡ Some x → t ≡ RParen ∷ x.1
shut_is [] x e = none_is_not x e
shut_is (RParen ∷ t) x e = ap (λ (u : Unit {0} × List Token). RParen ∷ u.1) (some_is (tt, t) x e)
shut_is (_ ∷ t) x e = none_is_not x e

shut_twice : (t : List Token) (x y : Unit {0} × List Token) → closed t ≡ Some x
    → closed x.1 ≡ Some y
    → t ≡ RParen ∷ RParen ∷ y.1
shut_twice t x y e f = shut_is t x e ∙ ap (λ (u : List Token). RParen ∷ u) (shut_is x.1 y f)

opened_is : (w : List ℕ) (t : List Token) (x : Unit {0} × List Token) → opened w t ≡ Some x
    → t ≡ LParen ∷ keyword w ∷ x.1
opened_is w [] x e = none_is_not x e
opened_is w (LParen ∷ []) x e = none_is_not x e
opened_is w (LParen ∷ Keyword k ∷ t) x e =
    by_test (bytes_eq k w)
    (λ h. (let e2 : some_of (tt, t) ≡ some_of x = rw h at e in
    let s = (bytes_decides k w).0 h in
    rw s (ap (λ (u : Unit {0} × List Token). LParen ∷ Keyword w ∷ u.1) (some_is (tt, t) x e2))))
    (λ h. (let e2 : none_of {A = Unit {0}} ≡ some_of x = rw h at e in none_is_not x e2))
opened_is w (LParen ∷ _ ∷ t) x e = none_is_not x e
opened_is w (_ ∷ t) x e = none_is_not x e

abbrev Sound : (List Token → Read Items) → Type 0
Sound rec = (t : List Token) (x : Items × List Token) → rec t ≡ Some x → lists x.0 t x.1

-- the value and the rest that were read
abbrev Is : Items → List Token → Items × List Token → Type 0
Is xs r x = (xs, r) ≡ x

is_listed : (ts : List Token) (xs : Items) (r : List Token) (x : Items × List Token) → Is xs r x
    → lists xs ts r → lists x.0 ts x.1
is_listed ts xs r x e l = subst (λ (u : Items × List Token). lists u.0 ts u.1) e l

module _ (rec : List Token → Read Items) (good : Sound rec) where
  more_sound : (f : Items → Items) (t : List Token) (x : Items × List Token)
      → more_by rec f t ≡ Some x
      → (xs : Items) × (r : List Token) × lists xs t r × Is (f xs) r x
  more_sound f t x e =
      let p = bind_some (rec t) (λ xs r. some_of (f xs, r)) x e in
      (p.0.0, p.0.1, good t p.0 p.1, some_is (f p.0.0, p.0.1) x p.2)

  group_sound : (f : Items → Items → Items) (t : List Token) (x : Items × List Token)
      → group_by rec f t ≡ Some x → (ys xs : Items) × (d r : List Token) × lists ys t (RParen ∷ d)
      × lists xs d r × Is (f ys xs) r x
  group_sound f t x e =
      let p = bind_some (rec t) (λ ys u. bind (closed u) (λ _ d. more_by rec (f ys) d)) x e in
      let q = bind_some (closed p.0.1) (λ _ d. more_by rec (f p.0.0) d) x p.2 in
      let m = more_sound (f p.0.0) q.0.1 x q.2 in (
        p.0.0,
        m.0,
        q.0.1,
        m.1,
        subst (λ (u : List Token). lists p.0.0 t u) (shut_is p.0.1 q.0 q.1)
            (good t p.0 p.1),
        m.2,
        m.3,
      )

  module _ (i : InstructionModel) (ops th : Items) (a b d : List Token) (k : sort i ≡ IsIf) (h :
      reads i a b)
      (g : AreGroups ops) (lo : lists ops b (LParen ∷ keyword (codes "then") ∷ d)) where
    else_sound : (t : List Token) (x : Items × List Token) → lists th d (RParen ∷ t)
        → bind (opened (codes "else") t)
        (λ _ e. bind (rec e) (λ el u. bind (closed u)
        (λ _ v. bind (closed v) (λ _ d. more_by rec (IfElse i ops th el) d)))) ≡ Some x
        → lists x.0 (LParen ∷ a) x.1
    else_sound t x lt e =
        let p = bind_some (opened (codes "else") t)
        (λ _ e. bind (rec e) (λ el u. bind (closed u)
        (λ _ v. bind (closed v) (λ _ d. more_by rec (IfElse i ops th el) d)))) x e in
        let q = bind_some (rec p.0.1) (λ el u. bind (closed u)
        (λ _ v. bind (closed v) (λ _ d. more_by rec (IfElse i ops th el) d))) x p.2 in
        let s = bind_some (closed q.0.1)
        (λ _ v. bind (closed v) (λ _ d. more_by rec (IfElse i ops th q.0.0) d)) x q.2 in
        let z = bind_some (closed s.0.1) (λ _ d. more_by rec (IfElse i ops th q.0.0) d) x s.2 in
        let m = more_sound (IfElse i ops th q.0.0) z.0.1 x z.2 in
        let o = opened_is (codes "else") t p.0 p.1 in
        let c : q.0.1 ≡ RParen ∷ RParen ∷ z.0.1 = shut_twice q.0.1 s.0 z.0 s.1 z.1 in
        is_listed (LParen ∷ a) (IfElse i ops th q.0.0 m.0) m.1 x m.3 (
          a,
          b,
          d,
          p.0.1,
          z.0.1,
          refl,
          k,
          h,
          g,
          lo,
          subst (λ (u : List Token). lists th d (RParen ∷ u))
              o lt,
          subst (λ (u : List Token). lists q.0.0 p.0.1 u) c (good p.0.1 q.0 q.1),
          m.2,
        )

    arms_sound : (t : List Token) (x : Items × List Token) → lists th d (RParen ∷ t)
        → arms_by rec i ops th t ≡ Some x → lists x.0 (LParen ∷ a) x.1
    arms_sound (RParen ∷ e) x lt q =
        let m = more_sound (IfThen i ops th) e x q in
        is_listed (LParen ∷ a) (IfThen i ops th m.0) m.1 x m.3
        (a, b, d, e, refl, k, h, g, lo, lt, m.2)
    arms_sound [] x lt q = none_is_not x q
    arms_sound (t ∷ ts) x lt q = else_sound (t ∷ ts) x lt q

  if_sound : (i : InstructionModel) (a b : List Token) (x : Items × List Token) → sort i ≡ IsIf
      → reads i a b
      → if_by rec i b ≡ Some x → lists x.0 (LParen ∷ a) x.1
  if_sound i a b x k h e =
      let p = bind_some (rec b) (λ ops u. if are_groups ops then bind (opened (codes "then") u)
      (λ _ d. bind (rec d) (λ th v. bind (closed v) (λ _ w. arms_by rec i ops th w))) else None) x
      e in
      by_test (are_groups p.0.0)
      (λ g. (let e2 : bind (opened (codes "then") p.0.1)
      (λ _ d. bind (rec d) (λ th v. bind (closed v) (λ _ w. arms_by rec i p.0.0 th w))) ≡ Some x =
      rw g at p.2 in
      let q = bind_some (opened (codes "then") p.0.1)
      (λ _ d. bind (rec d) (λ th v. bind (closed v) (λ _ w. arms_by rec i p.0.0 th w))) x e2 in
      let s = bind_some (rec q.0.1)
      (λ th v. bind (closed v) (λ _ w. arms_by rec i p.0.0 th w)) x q.2 in
      let z = bind_some (closed s.0.1) (λ _ w. arms_by rec i p.0.0 s.0.0 w) x s.2 in
      arms_sound i p.0.0 s.0.0 a b q.0.1 k h (are_groups_so p.0.0 g)
      (subst (λ (u : List Token). lists p.0.0 b u) (opened_is (codes "then") p.0.1 q.0 q.1)
      (good b p.0 p.1))
      z.0.1 x (subst (λ (u : List Token). lists s.0.0 q.0.1 u) (shut_is s.0.1 z.0 z.1)
      (good q.0.1 s.0 s.1)) z.2))
      (λ g. (let e2 : none_of {A = Items} ≡ some_of x = rw g at p.2 in none_is_not x e2))

  sort_sound : (i : InstructionModel) (a b : List Token) (x : Items × List Token) (s : Sort)
      → sort i ≡ s
      → reads i a b → sort_by rec s i b ≡ Some x → lists x.0 (LParen ∷ a) x.1
  sort_sound i a b x IsOther k h e =
      let m = group_sound (Folded i) b x e in
      is_listed (LParen ∷ a) (Folded i m.0 m.1) m.3 x m.6 (a, b, m.2, refl, k, h, m.4, m.5)
  sort_sound i a b x IsBlock k h e =
      let m = group_sound (Block i) b x e in
      is_listed (LParen ∷ a) (Block i m.0 m.1) m.3 x m.6 (a, b, m.2, refl, k, h, m.4, m.5)
  sort_sound i a b x IsIf k h e = if_sound i a b x k h e

  hint_items_sound : (v : ℕ) (d : List Token) (x : Items × List Token) → v < 2
      → bind (rec d) (λ xs r. if begins_branch xs then Some (Hinted v xs, r) else None) ≡ Some x
      → lists x.0 (LParen ∷ hint_name ∷ String (v ∷ []) ∷ RParen ∷ d) x.1
  hint_items_sound v d x lt e =
      let p = bind_some (rec d) (λ xs r. if begins_branch xs then Some (Hinted v xs, r) else None) x
      e in
      by_test (begins_branch p.0.0)
      (λ g. (let e2 : some_of (Hinted v p.0.0, p.0.1) ≡ some_of x = rw g at p.2 in
      is_listed _ (Hinted v p.0.0) p.0.1 x (some_is (Hinted v p.0.0, p.0.1) x e2)
      (d, refl, lt, begins_branch_so p.0.0 g, good d p.0 p.1)))
      (λ g. (let e2 : none_of {A = Items} ≡ some_of x = rw g at p.2 in none_is_not x e2))

  hint_sound : (t : List Token) (x : Items × List Token) → hint_by rec t ≡ Some x
      → lists x.0 (LParen ∷ hint_name ∷ t) x.1
  hint_sound (String (v ∷ []) ∷ RParen ∷ d) x e =
      by_test (nat_lt v 2)
      (λ g. hint_items_sound v d x (ltb-true v 2 g) (rw g at e))
      (λ g. (let e2 : none_of {A = Items} ≡ some_of x = rw g at e in none_is_not x e2))
  hint_sound _ x e = none_is_not x e

  paren_sound : (t : List Token) (x : Items × List Token) → paren_by rec t ≡ Some x
      → lists x.0 (LParen ∷ t) x.1
  paren_sound [] x e = none_is_not x e
  paren_sound (Keyword w ∷ t) x e =
      by_test (bytes_eq w (codes "then"))
      (λ g. (let e2 : some_of (Nil, LParen ∷ Keyword w ∷ t) ≡ some_of x = rw g at e in
      is_listed _ Nil (LParen ∷ Keyword w ∷ t) x (some_is (Nil, LParen ∷ Keyword w ∷ t) x e2) refl))
      (λ g. (let e2 : bind (instruction.reads (Keyword w ∷ t)) (λ i b. sort_by rec (sort i) i b)
      ≡ Some x = rw g at e in
      let p = bind_some (instruction.reads (Keyword w ∷ t)) (λ i b. sort_by rec (sort i) i b) x e2
      in
      sort_sound p.0.0 (Keyword w ∷ t) p.0.1 x (sort p.0.0) refl
      (reads_of p.0.0 (Keyword w ∷ t) p.0.1 p.1) p.2))
  paren_sound (Annotation n ∷ t) x e =
      by_test (bytes_eq n (codes "metadata.code.branch_hint"))
      (λ g. (let e2 : hint_by rec t ≡ Some x = rw g at e in
      let s = (bytes_decides n (codes "metadata.code.branch_hint")).0 g in
      subst (λ (u : List ℕ). lists x.0 (LParen ∷ Annotation u ∷ t) x.1) (sym s)
      (hint_sound t x e2)))
      (λ g. (let e2 : none_of {A = Items} ≡ some_of x = rw g at e in none_is_not x e2))
  paren_sound (_ ∷ t) x e = none_is_not x e

  plain_sound : (t : List Token) (x : Items × List Token)
      → bind (instruction.reads t) (λ i m. more_by rec (Plain i) m) ≡ Some x → lists x.0 t x.1
  plain_sound t x e =
      let p = bind_some (instruction.reads t) (λ i m. more_by rec (Plain i) m) x e in
      let m = more_sound (Plain p.0.0) p.0.1 x p.2 in
      is_listed t (Plain p.0.0 m.0) m.1 x m.3 (p.0.1, reads_of p.0.0 t p.0.1 p.1, m.2)

  items_sound : (t : List Token) (x : Items × List Token) → items_by rec t ≡ Some x
      → lists x.0 t x.1
  items_sound [] x e = is_listed [] Nil [] x (some_is (Nil, []) x e) refl
  items_sound (RParen ∷ t) x e = is_listed _ Nil (RParen ∷ t) x (some_is (Nil, RParen ∷ t) x e) refl
  items_sound (LParen ∷ t) x e = paren_sound t x e
  items_sound (k ∷ t) x e = plain_sound (k ∷ t) x e

pub items_at_sound : (n : ℕ) → Sound (items_at n)
unfolding items_at
items_at_sound zero t x e = none_is_not x e
items_at_sound (suc n) t x e = items_sound (items_at n) (items_at_sound n) t x e

-- ---- listed items are read

so_are_groups : (xs : Items) → AreGroups xs → are_groups xs ≡ true
so_are_groups Nil g = refl
so_are_groups (Plain i xs) g = absurd g.0
so_are_groups (Folded i ys xs) g = so_are_groups xs g.1
so_are_groups (Block i ys xs) g = so_are_groups xs g.1
so_are_groups (IfThen i ops th xs) g = so_are_groups xs g.1
so_are_groups (IfElse i ops th el xs) g = so_are_groups xs g.1
so_are_groups (Hinted v xs) g = so_are_groups xs g.1

so_begins_branch : (xs : Items) → BeginsWithBranch xs → begins_branch xs ≡ true
so_begins_branch Nil g = absurd g
so_begins_branch (Plain i xs) g = g
so_begins_branch (Folded i ys xs) g = g
so_begins_branch (Block i ys xs) g = absurd g
so_begins_branch (IfThen i ops th xs) g = refl
so_begins_branch (IfElse i ops th el xs) g = refl
so_begins_branch (Hinted v xs) g = absurd g

not_then : (i : InstructionModel) (w : List ℕ) (t m : List Token) → reads i (Keyword w ∷ t) m
    → bytes_eq w (codes "then") ≡ false
not_then i w t m h =
    by_test (bytes_eq w (codes "then"))
    (λ g. absurd (reads_not_then i t m
    (subst (λ (u : List ℕ). reads i (Keyword u ∷ t) m) ((bytes_decides w (codes "then")).0 g)
    h)))
    (λ g. g)

module _ (rec : List Token → Read Items) where
  ended : (r : List Token) → Stops r → items_by rec r ≡ Some (Nil, r)
  ended [] s = refl
  ended (RParen ∷ r) s = refl
  ended (LParen ∷ Keyword w ∷ r) s = rw ((bytes_decides w (codes "then")).1 s) refl
  ended (LParen ∷ []) s = absurd s
  ended (LParen ∷ _ ∷ r) s = absurd s
  ended (_ ∷ r) s = absurd s

  begins_plain : (i : InstructionModel) (ts m : List Token) → reads i ts m
      → items_by rec ts ≡ more_by rec (Plain i) m
  begins_plain i [] m h = absurd (reads_nothing i m h)
  begins_plain i (Keyword w ∷ t) m h = rw (read_of i (Keyword w ∷ t) m h) refl
  begins_plain i (k ∷ t) m h = absurd (word_front i k t m h)

  begins_group : (i : InstructionModel) (a b : List Token) → reads i a b
      → items_by rec (LParen ∷ a) ≡ sort_by rec (sort i) i b
  begins_group i [] b h = absurd (reads_nothing i b h)
  begins_group i (Keyword w ∷ t) b h = rw (not_then i w t b h, read_of i (Keyword w ∷ t) b h) refl
  begins_group i (k ∷ t) b h = absurd (word_front i k t b h)

-- the contents of a group, and the rest after its last token, are shorter than all tokens
group_shorter : (i : InstructionModel) (ys : Items) (n : ℕ) (ts a b : List Token) (x : Token) (d :
    List Token)
    → length ts < suc n → ts ≡ LParen ∷ a → reads i a b → lists ys b (x ∷ d)
    → (length b < n) × (length d < n)
group_shorter i ys n ts a b x d lt e h ly =
    let k = reads_shorter i a b h in
    let z = ap length e in
    let y = (lists_between ys b (x ∷ d) ly).shorter in
    (omega arith, omega arith)

pub items_at_complete : (xs : Items) (n : ℕ) (ts r : List Token) → length ts < n → Stops r
    → lists xs ts r → items_at n ts ≡ Some (xs, r)
unfolding items_at
items_at_complete xs zero ts r lt s l = absurd (omega arith)
items_at_complete Nil (suc n) ts r lt s l = rw l (ended (items_at n) r s)
items_at_complete (Plain i xs) (suc n) ts r lt s (m, h, l) =
    let k = reads_shorter i ts m h in
    begins_plain (items_at n) i ts m h ∙ rw (items_at_complete xs n m r (omega arith) s l) refl
items_at_complete (Folded i ys xs) (suc n) ts r lt s (a, b, d, e, q, h, ly, lx) =
    let k = group_shorter i ys n ts a b _ d lt e h ly in
    let y = items_at_complete ys n b (RParen ∷ d) k.0 tt ly in
    let x = items_at_complete xs n d r k.1 s lx in
    rw e (begins_group (items_at n) i a b h ∙ rw (q, y, x) refl)
items_at_complete (Block i ys xs) (suc n) ts r lt s (a, b, d, e, q, h, ly, lx) =
    let k = group_shorter i ys n ts a b _ d lt e h ly in
    let y = items_at_complete ys n b (RParen ∷ d) k.0 tt ly in
    let x = items_at_complete xs n d r k.1 s lx in
    rw e (begins_group (items_at n) i a b h ∙ rw (q, y, x) refl)
items_at_complete (IfThen i ops th xs) (suc n) ts r lt s (a, b, d, e, q, k, h, g, lo, lh, lx) =
    let z = group_shorter i ops n ts a b _ _ lt q h lo in
    let y = (lists_between th d _ lh).shorter in
    rw q (begins_group (items_at n) i a b h ∙ rw (
      k,
      items_at_complete ops n b _ z.0 refl lo,
      so_are_groups ops g,
      items_at_complete th n d _ (omega (arith, z.1)) tt lh,
      items_at_complete xs n e r (omega (arith, z.1)) s lx,
    ) refl)
items_at_complete (IfElse i ops th el xs) (suc n) ts r lt s
    (a, b, d, e, f, q, k, h, g, lo, lh, le, lx) =
    let z = group_shorter i ops n ts a b _ _ lt q h lo in
    let y = (lists_between th d _ lh).shorter in
    let w = (lists_between el e _ le).shorter in
    rw q (begins_group (items_at n) i a b h ∙ rw (
      k,
      items_at_complete ops n b _ z.0 refl lo,
      so_are_groups ops g,
      items_at_complete th n d _ (omega (arith, z.1)) tt lh,
      items_at_complete el n e _ (omega (arith, z.1)) tt le,
      items_at_complete xs n f r (omega (arith, z.1)) s lx,
    ) refl)
items_at_complete (Hinted v xs) (suc n) ts r lt s (d, e, less, g, l) =
    let z = ap length e in
    rw (e, lt-ltb v 2 less, items_at_complete xs n d r (omega arith) s l, so_begins_branch xs g)
    refl

-- ---- the production

pub stops_end : (r : List Token) → ends r ≡ true → Stops r
stops_end [] e = tt
stops_end (RParen ∷ r) e = tt
stops_end (_ ∷ r) e = absurd cc

pub expression_sound : (t : List Token) (x : ExpressionModel × List Token)
    → expression_reads t ≡ Some x
    → Front expression_spells t x
expression_sound t x e =
    let p = bind_some (items_at (suc (length t)) t) to_the_end x e in
    let l = items_at_sound (suc (length t)) t p.0 p.1 in
    let b = lists_between p.0.0 t p.0.1 l in
    by_test (ends p.0.1)
    (λ k. (let e2 : some_of (value_of p.0.0, p.0.1) ≡ some_of x = rw k at p.2 in
    subst (λ (u : ExpressionModel × List Token). Front expression_spells t u)
    (some_is (value_of p.0.0, p.0.1) x e2)
    (b.front, b.is, (p.0.0, subst (λ (u : List Token). lists p.0.0 u p.0.1) b.is l, k, refl))))
    (λ k. (let e2 : none_of {A = ExpressionModel} ≡ some_of x = rw k at p.2 in none_is_not x e2))

pub expression_complete : (v : ExpressionModel) (c r : List Token) → expression_spells v c r
    → expression_reads (c ++ r) ≡ Some (v, r)
expression_complete v c r (xs, l, k, e) =
    rw (
      items_at_complete xs (suc (length (c ++ r))) (c ++ r) r (omega arith) (stops_end r k) l,
      k,
      e,
    ) refl

pub expression_takes : (v : ExpressionModel) (c r : List Token) → expression_spells v c r
    → 0 ≤ length c
expression_takes v c r s = omega arith

pub expression_balanced : (v : ExpressionModel) (c r : List Token) → expression_spells v c r
    → AreBalanced c
expression_balanced v c r (xs, l, k, e) =
    let b = (lists_between xs (c ++ r) r l).balanced in
    omega (arith, b, opens-append c r, closes-append c r)

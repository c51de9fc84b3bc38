-- Laws: the reader of folded instructions agrees with the tokens that spell them.
use Rattle.std.proofs.Common.{◌≡◌, ℕ, zero, suc, ◌<◌, ◌≤◌, List, [], ◌∷◌, ◌++◌, length, Some, refl, ap, subst, ◌∙◌, arith, length-append}
use Rattle.wat_instr.specs.Prelude.{Token, LParen, RParen, AreBalanced, opens, closes, Front, bind, some_of, some_is, bind_some, none_is_not, opens-append, closes-append, InstructionModel, instruction}
use Rattle.wat_expr.specs.Expression.{ExpressionModel}
use Rattle.wat_expr.specs.Reading.{closed}
use Rattle.wat_expr.specs.Folded.{Groups, NoGroup, groups, Group, groups_at, is_folded, folded_value, folded_reads, folded_spells}
use Rattle.wat_expr.specs.Laws.Facts.{reads_of, reads_front, reads_balanced, Between, is_between, group_is, read_of, reads_shorter}
use Rattle.wat_expr.specs.Laws.Reading.{shut_is}

-- ---- the reader agrees with the relation

no_group_read : (t : List Token) (x : Groups × List Token) → some_of (NoGroup, t) ≡ some_of x
    → groups x.0 t x.1
no_group_read t x e =
    subst (λ (u : Groups × List Token). groups u.0 t u.1) (some_is (NoGroup, t) x e) refl

pub groups_at_sound : (n : ℕ) (t : List Token) (x : Groups × List Token) → groups_at n t ≡ Some x
    → groups x.0 t x.1
unfolding groups_at
groups_at_sound zero t x e = none_is_not x e
groups_at_sound (suc n) (LParen ∷ t) x e =
    let p = bind_some (instruction.reads t)
    (λ i b. bind (groups_at n b) (λ gs u. bind (closed u)
    (λ _ d. bind (groups_at n d) (λ hs r. some_of (Group i gs hs, r))))) x e in
    let q = bind_some (groups_at n p.0.1)
    (λ gs u. bind (closed u) (λ _ d. bind (groups_at n d)
    (λ hs r. some_of (Group p.0.0 gs hs, r)))) x p.2 in
    let s = bind_some (closed q.0.1)
    (λ _ d. bind (groups_at n d) (λ hs r. some_of (Group p.0.0 q.0.0 hs, r))) x q.2 in
    let z = bind_some (groups_at n s.0.1) (λ hs r. some_of (Group p.0.0 q.0.0 hs, r)) x s.2 in
    subst (λ (u : Groups × List Token). groups u.0 (LParen ∷ t) u.1)
    (some_is (Group p.0.0 q.0.0 z.0.0, z.0.1) x z.2) (
      t,
      p.0.1,
      s.0.1,
      refl,
      reads_of p.0.0 t p.0.1 p.1,
      subst
          (λ (u : List Token). groups q.0.0 p.0.1 u) (shut_is q.0.1 s.0 s.1)
          (groups_at_sound n p.0.1 q.0 q.1),
      groups_at_sound n s.0.1 z.0 z.1,
    )
groups_at_sound (suc n) [] x e = no_group_read [] x e
groups_at_sound (suc n) (k ∷ t) x e = no_group_read (k ∷ t) x e

pub groups_between : (gs : Groups) (ts r : List Token) → groups gs ts r → Between ts r
groups_between NoGroup ts r l = is_between ts [] r l (let e : ts ≡ r = l in rw e (omega arith))
groups_between (Group i gs hs) ts r (a, b, d, e, h, l, k) =
    let f = reads_front i a b h in
    let v = reads_balanced i a b h in
    let y = groups_between gs b (RParen ∷ d) l in
    let x = groups_between hs d r k in
    is_between ts (LParen ∷ (f.0 ++ (y.front ++ (RParen ∷ x.front)))) r
    (e ∙ group_is a f.0 y.front x.front d b r f.1 y.is x.is)
    (let z = ap opens e in let w = ap closes e in omega (arith, z, w, v, y.balanced, x.balanced))

pub groups_at_complete : (gs : Groups) (n : ℕ) (ts r : List Token) → length ts < n
    → groups gs ts (RParen ∷ r) → groups_at n ts ≡ Some (gs, RParen ∷ r)
unfolding groups_at
groups_at_complete gs zero ts r lt l = absurd (omega arith)
groups_at_complete NoGroup (suc n) ts r lt l = rw l refl
groups_at_complete (Group i gs hs) (suc n) ts r lt (a, b, d, e, h, l, k) =
    let s = reads_shorter i a b h in
    let z = ap length e in
    let y = (groups_between gs b (RParen ∷ d) l).shorter in
    rw (
      e,
      read_of i a b h,
      groups_at_complete gs n b d (omega arith) l,
      groups_at_complete hs n d r
          (omega arith) k,
    ) refl

pub folded_between : (i : InstructionModel) (gs : Groups) (ts r : List Token) → is_folded i gs ts r
    → Between ts r
folded_between i gs ts r (a, b, e, h, l) =
    groups_between (Group i gs NoGroup) ts r (a, b, r, e, h, l, refl)

-- ---- the production

pub folded_sound : (t : List Token) (x : ExpressionModel × List Token) → folded_reads t ≡ Some x
    → Front folded_spells t x
folded_sound [] x e = none_is_not x e
folded_sound (LParen ∷ t) x e =
    let p = bind_some (instruction.reads t)
    (λ i b. bind (groups_at (suc (length b)) b)
    (λ gs u. bind (closed u) (λ _ r. some_of (folded_value i gs, r)))) x e in
    let q = bind_some (groups_at (suc (length p.0.1)) p.0.1)
    (λ gs u. bind (closed u) (λ _ r. some_of (folded_value p.0.0 gs, r))) x p.2 in
    let s = bind_some (closed q.0.1) (λ _ r. some_of (folded_value p.0.0 q.0.0, r)) x q.2 in
    let l : is_folded p.0.0 q.0.0 (LParen ∷ t) s.0.1 = (
      t,
      p.0.1,
      refl,
      reads_of p.0.0 t p.0.1 p.1,
      subst (λ (u : List Token). groups q.0.0 p.0.1 u)
          (shut_is q.0.1 s.0 s.1) (groups_at_sound (suc (length p.0.1)) p.0.1 q.0 q.1),
    ) in
    let b = folded_between p.0.0 q.0.0 (LParen ∷ t) s.0.1 l in
    subst (λ (u : ExpressionModel × List Token). Front folded_spells (LParen ∷ t) u)
    (some_is (folded_value p.0.0 q.0.0, s.0.1) x s.2) (
      b.front,
      b.is,
      (
        p.0.0,
        q.0.0,
        subst (λ (u : List Token). is_folded p.0.0 q.0.0 u s.0.1) b.is l,
        refl,
      ),
    )
folded_sound (_ ∷ t) x e = none_is_not x e

pub folded_complete : (v : ExpressionModel) (c r : List Token) → folded_spells v c r
    → folded_reads (c ++ r) ≡ Some (v, r)
folded_complete v c r (i, gs, (a, b, e, h, l), k) =
    rw (e, read_of i a b h, groups_at_complete gs (suc (length b)) b r (omega arith) l, k) refl

pub folded_takes : (v : ExpressionModel) (c r : List Token) → folded_spells v c r → 1 ≤ length c
folded_takes v c r (i, gs, (a, b, e, h, l), k) =
    let z = ap length e in
    let y = reads_shorter i a b h in
    let w = (groups_between gs b (RParen ∷ r) l).shorter in
    omega (arith, z, y, w, length-append c r)

pub folded_balanced : (v : ExpressionModel) (c r : List Token) → folded_spells v c r → AreBalanced c
folded_balanced v c r (i, gs, l, k) =
    let b = (folded_between i gs (c ++ r) r l).balanced in
    omega (arith, b, opens-append c r, closes-append c r)

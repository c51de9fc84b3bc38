-- The parts of the reader of groups make the definition's reader.
use Rattle.std.proofs.Common.{◌≡◌, ◌≢◌, ℕ, zero, suc, ◌-◌, sub-one, true, false, List, [], ◌∷◌, length, drop, arith, Some, None, Result, Ok, Err, IfOk, MatchResult, refl, sym, subst, ◌∙◌}
use Rattle.wat_expr.specs.Prelude.{Token, LParen, RParen, Error, Memory, Read, bind, some_of, begins_lparen, InstructionModel, instruction, reads_of, Groups, NoGroup, Group, groups, is_folded, folded_value, folded_reads, closed}
use Rattle.wat_plain.specs.Prelude.{groups_at}
use Rattle.wat_instr.specs.Prelude.{bind_some, some_is}
use Rattle.wat_expr.specs.Laws.Folded.{groups_at_sound}
use Rattle.wat_expr.specs.Laws.Reading.{shut_is}
use Rattle.wat_plain.specs.declared.tree.FoldedGroup.{FoldedGroup}
use Rattle.wat_plain.specs.Found.{FindsFolded}
use Rattle.wat_plain.specs.Parts.{enclosed_by, next_group_by, one_group}
use Rattle.wat_plain.specs.Seen.{instr_at, seen_groups}
use Rattle.wat_plain.proofs.Parts.{enclosed}

pub groups_at_zero : (n : ℕ) (t : List Token) → n ≡ 0 → groups_at n t ≡ None
unfolding groups_at
groups_at_zero zero t e = refl
groups_at_zero (suc n) t e = absurd (omega arith)

-- no group before a token that isn't `(`
pub groups_at_end : (n : ℕ) (t u : List Token) → n ≢ 0 → false ≡ begins_lparen t → u ≡ t
    → groups_at n t ≡ Some (NoGroup, u)
unfolding groups_at
groups_at_end zero t u h o e = absurd (h refl)
groups_at_end (suc n) [] u h o e = rw e refl
groups_at_end (suc n) (LParen ∷ t) u h o e = absurd cc
groups_at_end (suc n) (k ∷ t) u h o e = rw e refl

module _ (rec : List Token → Read Groups) where
  behind : (x : Read InstructionModel)
      → bind x (λ i b. bind (rec b) (λ gs u. bind (closed u)
      (λ _ d. bind (rec d) (λ hs r. some_of (Group i gs hs, r)))))
      ≡ bind x (λ i b. bind (enclosed_by rec b)
      (λ gs d. bind (rec d) (λ hs r. some_of (Group i gs hs, r))))
  behind (Some x) =
      sym (enclosed (rec x.1) (λ gs d. bind (rec d) (λ hs r. some_of (Group x.0 gs hs, r))))
  behind None = refl

-- a group after a `(`
pub groups_at_open : (n : ℕ) (t u : List Token) → n ≢ 0 → true ≡ begins_lparen t → u ≡ drop 1 t
    → groups_at n t ≡ next_group_by (groups_at (n - 1)) u
unfolding groups_at
groups_at_open zero t u h o d = absurd (h refl)
groups_at_open (suc n) (LParen ∷ t) u h o d = rw (d, sub-one) (behind (groups_at n) (instruction.reads t))
groups_at_open (suc n) [] u h o d = absurd cc
groups_at_open (suc n) (_ ∷ t) u h o d = absurd cc

-- ---- one folded instruction

enclosed_sound : (n : ℕ) (t : List Token) (x : Groups × List Token)
    → enclosed_by (groups_at n) t ≡ Some x → groups x.0 t (RParen ∷ x.1)
enclosed_sound n t x e =
    let p = bind_some (groups_at n t) (λ gs u. bind (closed u) (λ _ d. some_of (gs, d))) x e in
    let q = bind_some (closed p.0.1) (λ _ d. some_of (p.0.0, d)) x p.2 in
    let l = subst (λ (u : List Token). groups p.0.0 t u) (shut_is p.0.1 q.0 q.1)
    (groups_at_sound n t p.0 p.1) in
    subst (λ (y : Groups × List Token). groups y.0 t (RParen ∷ y.1))
    (some_is (p.0.0, q.0.1) x q.2) l

group_sound : (t : List Token) (x : (InstructionModel × Groups) × List Token)
    → one_group t ≡ Some x → is_folded x.0.0 x.0.1 (LParen ∷ t) x.1
group_sound t x e =
    let p = bind_some (instruction.reads t)
    (λ i b. bind (enclosed_by (groups_at (suc (length b))) b) (λ gs r. some_of ((i, gs), r))) x e in
    let q = bind_some (enclosed_by (groups_at (suc (length p.0.1))) p.0.1)
    (λ gs r. some_of ((p.0.0, gs), r)) x p.2 in
    subst (λ (y : (InstructionModel × Groups) × List Token). is_folded y.0.0 y.0.1 (LParen ∷ t) y.1)
    (some_is ((p.0.0, q.0.0), q.0.1) x q.2) (
      t,
      p.0.1,
      refl,
      reads_of p.0.0 t p.0.1 p.1,
      enclosed_sound (suc (length p.0.1)) p.0.1 q.0 q.1,
    )

paired : {A B C : Type 0} (i : A) (x : Read B) (g : A × B → List Token → Read C)
    → bind (bind x (λ b r. some_of ((i, b), r))) g ≡ bind x (λ b r. g (i, b) r)
paired i (Some x) g = refl
paired i None g = refl

abbrev paired_on : Read InstructionModel → Read (InstructionModel × Groups)
paired_on x =
    bind x (λ i b. bind (enclosed_by (groups_at (suc (length b))) b)
    (λ gs r. some_of ((i, gs), r)))

one_is : (x : Read InstructionModel)
    → bind x (λ i b. bind (groups_at (suc (length b)) b)
    (λ gs u. bind (closed u) (λ _ r. some_of (folded_value i gs, r))))
    ≡ bind (paired_on x) (λ p r. some_of (folded_value p.0 p.1, r))
one_is (Some x) =
    sym (paired x.0 (enclosed_by (groups_at (suc (length x.1))) x.1)
    (λ p r. some_of (folded_value p.0 p.1, r))
    ∙ enclosed (groups_at (suc (length x.1)) x.1) (λ gs r. some_of (folded_value x.0 gs, r)))
one_is None = refl

-- the definition's reader
folded_open : (t : List Token) → folded_reads (LParen ∷ t)
    ≡ bind (one_group t) (λ p r. some_of (folded_value p.0 p.1, r))
folded_open t = one_is (instruction.reads t)

pub folded_none : (t : List Token) → false ≡ begins_lparen t → folded_reads t ≡ None
folded_none [] o = refl
folded_none (LParen ∷ t) o = absurd cc
folded_none (k ∷ t) o = refl

lparen_before : (t u : List Token) → true ≡ begins_lparen t → u ≡ drop 1 t → t ≡ LParen ∷ u
lparen_before (LParen ∷ t) u o d = rw d refl
lparen_before [] u o d = absurd cc
lparen_before (_ ∷ t) u o d = absurd cc

module _ (t u left : List Token) (o : true ≡ begins_lparen t) (d : u ≡ drop 1 t) where
  pub group_of : (r : Result FoldedGroup Error) → FindsFolded r (one_group u) left
      → IfOk r (λ f. is_folded (instr_at f.instr) (seen_groups f.groups.now) t left)
  group_of (Ok f) e =
      rw (lparen_before t u o d)
      (group_sound u ((instr_at f.instr, seen_groups f.groups.now), left) e)
  group_of (Err e) h = tt

  pub folded_of : (r : Result FoldedGroup Error) → FindsFolded r (one_group u) left
      → MatchResult r (λ f. folded_reads t
      ≡ Some (folded_value (instr_at f.instr) (seen_groups f.groups.now), left))
      (λ e. e.fault ≢ Memory → folded_reads t ≡ None)
  folded_of (Ok f) e = rw (lparen_before t u o d) (folded_open u ∙ rw e refl)
  folded_of (Err e) h = λ n. rw (lparen_before t u o d) (folded_open u ∙ rw (h n) refl)

-- The reading of a folded instruction, and the invariant of the loop over its groups.
use Rattle.std.proofs.Common.{◌≡◌, suc, List, [], ◌∷◌, length, Some, None, false, refl, sym, ap, ◌∙◌, arith, ◌⊎◌, inl, inr, ℕ, ◌+◌, ◌≤◌, ◌<◌, ◌++◌, Option, Bool, true, append_assoc, MatchBool, max}
use Rattle.wat_expr.specs.Prelude.{append-nil, Token, LParen, RParen, filled_behind, Read, some_of, by_read, as_lparen, InstructionModel, ExpressionModel, heapless_expression, expression_view, read_of, reads_balanced, reads_shorter, reads, Groups, unfolded_groups, is_folded, folded_value, folded_reads, NoGroup, Group, groups, groups_at_complete, Carries, SameSettings, Stays, opens, closes, NotHeapless, one_reads, State, no_items, Flat, flat, no_output, group_state, IsHalted, OpenGroup, InFolded, heads_in}
use Rattle.wat_expr.specs.Folded.{count_groups, depth_groups}
use Rattle.wat_expr.specs.Laws.Folded.{folded_sound}
use Rattle.wat_tokens.specs.Counts.{Quiet}
use Rattle.wat_expr.specs.GroupTurn.{Opens, Closes}
use Rattle.wat_expr.specs.declared.expression.Expression.{Expression}
use Rattle.wat_expr.specs.ItemsRead.{IsFolded}
use Rattle.wat_expr.proofs.Flatten.{Spanned, spanned}
use Rattle.wat_expr.proofs.Fronts.{same_group}
use Rattle.wat_expr.proofs.Heights.{carries_height, taken_more, taken_one}

-- a group at the front of the tokens is read
pub read_folded : (i : InstructionModel) (gs : Groups) (ts r : List Token) → is_folded i gs ts r → folded_reads ts ≡ Some (folded_value i gs, r)
read_folded i gs ts r (a, b, e, h, l) = rw (e, read_of i a b h, groups_at_complete gs (suc (length b)) b r (omega arith) l) refl

-- if no group is at the front of the tokens, nothing is read
pub read_none : (ts : List Token) → ((i : InstructionModel) (gs : Groups) (r : List Token) → is_folded i gs ts r → ⊥) → folded_reads ts ≡ None
read_none ts never =
    by_read (folded_reads ts)
    (λ y e. (let f = folded_sound ts y e in
    let s = f.2 in
    absurd (never s.0 s.1 y.1 (rw (← f.1) at s.2))))
    (λ e. e)

pub not_heapless_of : (x : Read ExpressionModel) → ((y : ExpressionModel × List Token) → x ≡ Some y → no_items y.0.instrs ≡ false) → NotHeapless heapless_expression x
not_heapless_of (Some y) k = k y refl
not_heapless_of None k = tt

-- a folded instruction is not heapless
pub read_not_heapless : (ts : List Token) → NotHeapless heapless_expression (folded_reads ts)
read_not_heapless ts =
    not_heapless_of (folded_reads ts) (λ y e. (let s = (folded_sound ts y e).2 in
    ap (λ (v : ExpressionModel). no_items v.instrs) s.3 ∙ filled_behind (unfolded_groups s.1) (s.0 ∷ []) refl))

-- ---- the first tokens

pub not_begun : (ts : List Token) → one_reads as_lparen ts ≡ None → folded_reads ts ≡ None
not_begun [] e = refl
not_begun (LParen ∷ ts) e = absurd cc
not_begun (_ ∷ ts) e = refl

pub no_word : (ts a : List Token) → ts ≡ LParen ∷ a → ((i : InstructionModel) (m : List Token) → reads i a m → ⊥) → folded_reads ts ≡ None
no_word ts a e never = read_none ts (λ i gs r k. (let f = k.2 in let ea : k.0 ≡ a = cc in never i k.1 (rw ea at k.3)))

-- the instructions so far, the turns, and the greatest numbers of open groups and of heads
pub record Sum : Type 0 where
  pub instrs : List InstructionModel
  pub turns : ℕ
  pub peak : ℕ
  pub held : ℕ

-- the turn that opens a group; then k open groups hold h heads
abbrev pub opened : ℕ → ℕ → Sum → Sum
opened k h f = record { instrs = f.instrs; turns = f.turns + 1; peak = max f.peak k; held = max f.held h }

-- the turn that closes the group of the instruction; then k open groups hold h heads
abbrev pub closed : ℕ → ℕ → InstructionModel → Sum → Sum
closed k h i f = record { instrs = f.instrs ++ i ∷ []; turns = f.turns + 1; peak = max f.peak k; held = max f.held h }

-- the sum after the groups, in k open groups that hold h heads
abbrev pub fold : ℕ → ℕ → Groups → Sum → Sum
fold k h NoGroup f = f
fold k h (Group i gs hs) f = fold k h hs (closed k h i (fold (suc k) (suc h) gs (opened (suc k) (suc h) f)))

-- the remaining work of the loop, until r is left and the sum is o
abbrev pub unwinds : Sum → List Token → List OpenGroup → List Token → Sum → Type 0
unwinds o r [] ts f = (ts ≡ r) × (f ≡ o)
unwinds o r (InFolded i p ∷ s) ts f =
    (gs : Groups) × (m : List Token) × groups gs ts (RParen ∷ m) × unwinds o r s m (closed (length s) (heads_in s) i (fold (suc (length s)) (suc (heads_in s)) gs f))
unwinds o r (l ∷ s) ts f = ⊥

-- the remaining work is the same from both places
pub record SameToDo (s : List OpenGroup) (ts : List Token) (f : Sum) (s' : List OpenGroup) (ts' : List Token) (f' : Sum) : Type 0 where
  pub forth : (o : Sum) (r : List Token) → unwinds o r s ts f → unwinds o r s' ts' f'
  pub back : (o : Sum) (r : List Token) → unwinds o r s' ts' f' → unwinds o r s ts f

-- a group opens in a group
opened_same : (j : InstructionModel) (q : Option ℕ) (s : List OpenGroup) (a b : List Token) (f : Sum) → (s ≡ [] → ⊥) → reads j a b → SameToDo s (LParen ∷ a) f (InFolded j q ∷ s) b (opened (suc (length s)) (suc (heads_in s)) f)
opened_same j q [] a b f some h = absurd (some refl)
opened_same j q (InFolded i p ∷ s) a b f some rj = record {
  forth = forth;
  back = λ o r (gs, m, l, (hs, n, l', u)). (Group j gs hs, n, (a, b, m, refl, rj, l, l'), u);
}
  where
    forth : (o : Sum) (r : List Token) → unwinds o r (InFolded i p ∷ s) (LParen ∷ a) f → unwinds o r (InFolded j q ∷ (InFolded i p ∷ s)) b (opened (suc (suc (length s))) (suc (suc (heads_in s))) f)
    forth o r (NoGroup, m, l, u) = cc
    forth o r (Group k gs hs, m, l, u) = let one = same_group j k a b l.0 l.1 l.3 rj l.4 in rw (← one.0, ← one.1) (gs, l.2, l.5, (hs, m, l.6, u))
opened_same j q (l ∷ s) a b f some h = record { forth = λ o r u. absurd u; back = λ o r u. absurd u.3 }

-- a group closes
closes_in : (i : InstructionModel) (p : Option ℕ) (s : List OpenGroup) (m : List Token) (f : Sum) → SameToDo (InFolded i p ∷ s) (RParen ∷ m) f s m (closed (length s) (heads_in s) i f)
closes_in i p s m f = record {
  forth = forth;
  back = λ o r u. (NoGroup, m, refl, u);
}
  where
    forth : (o : Sum) (r : List Token) → unwinds o r (InFolded i p ∷ s) (RParen ∷ m) f → unwinds o r s m (closed (length s) (heads_in s) i f)
    forth o r (NoGroup, n, l, u) = let e : n ≡ m = cc in rw e at u
    forth o r (Group k gs hs, n, l, u) = let e = l.3 in cc

-- the loop can't finish if the next tokens neither open a group nor close one
halts : (s : List OpenGroup) (ts : List Token) (f : Sum) → (s ≡ [] → ⊥) → ((i : InstructionModel) (a b : List Token) → ts ≡ LParen ∷ a → reads i a b → ⊥) → ((i : InstructionModel) (h : Option ℕ) (q : List OpenGroup) (d : List Token) → s ≡ InFolded i h ∷ q → ts ≡ RParen ∷ d → ⊥)
    → (o : Sum) (r : List Token) → unwinds o r s ts f → ⊥
halts [] ts f some open_ close_ o r u = some refl
halts (InFolded i p ∷ s) ts f some open_ close_ o r (NoGroup, m, l, u) = close_ i p s m refl l
halts (InFolded i p ∷ s) ts f some open_ close_ o r (Group j gs hs, m, l, u) = open_ j l.0 l.1 l.3 l.4
halts (l ∷ s) ts f some open_ close_ o r u = u

-- the sum after the groups, if k open groups and h heads were noted before
folds : (k h : ℕ) (gs : Groups) (f : Sum) → k ≤ f.peak → h ≤ f.held
    → ((fold k h gs f).instrs ≡ f.instrs ++ unfolded_groups gs) × (f.turns + count_groups gs ≤ (fold k h gs f).turns) × ((fold k h gs f).peak ≡ max f.peak (k + depth_groups gs)) × ((fold k h gs f).held ≡ max f.held (h + depth_groups gs))
folds k h NoGroup f p q = (sym (append-nil f.instrs), omega arith, omega arith, omega arith)
folds k h (Group i gs hs) f p q =
    let g = opened (suc k) (suc h) f in
    let y = folds (suc k) (suc h) gs g (omega arith) (omega arith) in
    let x = folds k h hs (closed k h i (fold (suc k) (suc h) gs g)) (omega (arith, y.2)) (omega (arith, y.3)) in
    (x.0 ∙ rw y.0 (simp append_assoc), omega (arith, x.1, y.1), omega (arith, x.2, y.2), omega (arith, x.3, y.3))

-- ---- one group

-- the sum after a group, from the place after its instruction
abbrev pub whole : InstructionModel → Groups → Sum → Sum
whole i gs f = closed 0 0 i (fold 1 1 gs f)

-- the sum after the first instruction: one group is open, and no turn was counted
abbrev pub start : ℕ → ℕ → ℕ → Sum
start t p h = record { instrs = []; turns = t; peak = max p 1; held = max h 1 }

-- The remaining work is the work of the group at the front of ts, which started with the sum g.
pub record Unwinding (ts : List Token) (g : Sum) (s : List OpenGroup) (u : List Token) (f : Sum) : Type 0 where
  pub forth : (i : InstructionModel) (gs : Groups) (r : List Token) → is_folded i gs ts r → unwinds (whole i gs g) r s u f
  pub back : (o : Sum) (r : List Token) → unwinds o r s u f → (i : InstructionModel) × (gs : Groups) × is_folded i gs ts r × (o ≡ whole i gs g)

whole_is : (i : InstructionModel) (gs : Groups) (t p h : ℕ)
    → ((whole i gs (start t p h)).instrs ≡ unfolded_groups gs ++ i ∷ []) × (t + suc (count_groups gs) ≤ (whole i gs (start t p h)).turns) × (suc (depth_groups gs) ≤ (whole i gs (start t p h)).peak) × ((whole i gs (start t p h)).held ≡ max h (suc (depth_groups gs)))
whole_is i gs t p h = let a = folds 1 1 gs (start t p h) (omega arith) (omega arith) in (ap (λ (l : List InstructionModel). l ++ i ∷ []) a.0, omega (arith, a.1), omega (arith, a.2), omega (arith, a.3))

begins : (i : InstructionModel) (p : Option ℕ) (ts a b : List Token) (g : Sum) → ts ≡ LParen ∷ a → reads i a b → Unwinding ts g (InFolded i p ∷ []) b g
begins i p ts a b g e ri = record {
  forth = λ j gs r (a', b', e', rj, l). (let one = same_group i j a b a' b' (sym e ∙ e') ri rj in (gs, r, rw one.1 at l, (refl, ap (λ (x : InstructionModel). whole x gs g) (sym one.0))));
  back = λ o r (gs, m, l, (em, ef)). (i, gs, (a, b, e, ri, rw em at l), sym ef);
}

-- the output, and the counters of the parser
abbrev pub sum_of : Flat → State → Sum
sum_of f b = record { instrs = f.instrs; turns = b.turns; peak = b.peak; held = b.held }

pub is_some : (b : Bool) (s : List OpenGroup) → MatchBool b (s ≡ []) (s ≡ [] → ⊥) → b ≡ false → s ≡ [] → ⊥
is_some true s m e = absurd cc
is_some false s m e = m

pub is_none : (b : Bool) (s : List OpenGroup) → MatchBool b (s ≡ []) (s ≡ [] → ⊥) → b ≡ true → s ≡ []
is_none true s m e = m
is_none false s m e = absurd cc

-- the open groups are folded groups without hints
abbrev pub Unhinted : List OpenGroup → Type 0
Unhinted [] = Unit {0}
Unhinted (InFolded i h ∷ s) = (h ≡ None) × Unhinted s
Unhinted (l ∷ s) = ⊥

pub innermost : (s : List OpenGroup) → Unhinted s → (s ≡ [] → ⊥) → (i : InstructionModel) × (h : Option ℕ) × (q : List OpenGroup) × (s ≡ InFolded i h ∷ q)
innermost [] u some = absurd (some refl)
innermost (InFolded i h ∷ s) u some = (i, h, s, refl)
innermost (l ∷ s) u some = absurd u

-- The loop started in the state a. Now the parser is in the state b, the groups s are open, and the
-- output is f.
pub record Going (a : State) (s : List OpenGroup) (f : Flat) (b : State) : Type 0 where
  pub exact : Unwinding a.left (start a.turns a.peak a.held) s b.left (sum_of f b)
  pub hints : f.hints ≡ []
  pub unhinted : Unhinted s
  pub spans : Spanned a.tracks f
  pub counts : Carries a b
  pub turned : b.turns + a.taken ≤ a.turns + b.taken
  pub balanced : length s + closes a.left + opens b.left ≡ opens a.left + closes b.left
  pub settings : SameSettings a b

abbrev pub sum : List InstructionModel → ℕ → ℕ → ℕ → Sum
sum x t p h = record { instrs = x; turns = t; peak = p; held = h }

-- ---- a turn

-- a turn leads from the groups s, the tokens ts and the output f to s', us and f'
pub record Stepped (s s' : List OpenGroup) (ts us : List Token) (f f' : Flat) : Type 0 where
  pub same : (t p h : ℕ) → SameToDo s ts (sum f.instrs t p h) s' us (sum f'.instrs (t + 1) (max p (length s')) (max h (heads_in s')))
  pub balanced : length s' + closes ts + opens us ≡ length s + opens ts + closes us
  pub shorter : length us < length ts
  pub hints : Unhinted s → f.hints ≡ [] → (f'.hints ≡ []) × Unhinted s'
  pub spans : (keeps : Bool) → Spanned keeps f → Spanned keeps f'

steps : (s s' : List OpenGroup) (ts us : List Token) (f f' : Flat) → (s ≡ [] → ⊥) → Opens (group_state s ts f) (group_state s' us f') ⊎ Closes (group_state s ts f) (group_state s' us f') → Stepped s s' ts us f f'
steps s s' ts us f f' some (inl (i, a, e, h, l, o)) =
    rw (e, l, o) (record { same = λ t p n. opened_same i None s a us (sum f.instrs t p n) some h; balanced = omega (arith, reads_balanced i a us h); shorter = omega (arith, reads_shorter i a us h); hints = λ w e. (e, (refl, w)); spans = λ k e. e })
steps s s' ts us f f' some (inr (i, h, l, e, o)) =
    rw (e, l, o) (record { same = λ t p n. closes_in i h s' us (sum f.instrs t p n); balanced = omega arith; shorter = omega arith; hints = λ w e. (rw w.0 (append-nil f.hints ∙ e), w.1); spans = λ k e. spanned k h i f e })

pub going_on : (a b t u v w : State) (s s' : List OpenGroup) (f f' : Flat) (k h : ℕ) → t ≡ record b { turns = b.turns + 1 } → k ≡ length s' → v ≡ record u { peak = max u.peak k } → h ≡ heads_in s' → w ≡ record v { held = max v.held h }
    → (s ≡ [] → ⊥) → Opens (group_state s t.left f) (group_state s' u.left f') ⊎ Closes (group_state s t.left f) (group_state s' u.left f') → Going a s f b → Carries b t → Carries t u → Stays t u → SameSettings t u → Carries v w → Going a s' f' w
going_on a b t u v w s s' f f' k h et ek ev eh ew = rw (et, ew, ev, ek, eh) (λ some turned g ct cu su ku cw.
    let x = steps s s' b.left u.left f f' some turned in
    let balanced : length s' + closes a.left + opens u.left ≡ opens a.left + closes u.left = omega (arith, x.balanced, g.balanced) in
    let more : b.taken + 1 ≤ u.taken = taken_one _ u cu x.shorter in
    let same : SameToDo s b.left (sum_of f b) s' u.left (sum f'.instrs u.turns (max u.peak (length s')) (max u.held (heads_in s'))) = rw (su.0, su.1, su.2) (x.same b.turns b.peak b.held) in
    record {
      exact = record { forth = λ i gs r k. same.forth (whole i gs (start a.turns a.peak a.held)) r (g.exact.forth i gs r k); back = λ o r k. g.exact.back o r (same.back o r k) };
      hints = (x.hints g.unhinted g.hints).0;
      unhinted = (x.hints g.unhinted g.hints).1;
      spans = x.spans a.tracks g.spans;
      counts = λ y z. cw y (carries_height a u _ (length s') (λ y z. cu y (ct y (g.counts y z))) balanced refl y z);
      turned = omega (arith, g.turned, su.0, more);
      balanced = balanced;
      settings = (ku.0 ∙ g.settings.0, ku.1 ∙ g.settings.1);
    })

-- ---- after the first instruction

pub going_begins : (a o t v w : State) (i : InstructionModel) (s : List OpenGroup) (f : Flat) (k h : ℕ) → s ≡ InFolded i None ∷ [] → f ≡ no_output a.tracks → k ≡ length s → v ≡ record t { peak = max t.peak k } → h ≡ heads_in s → w ≡ record v { held = max v.held h }
    → a.left ≡ LParen ∷ o.left → Carries a o → Quiet a o → SameSettings a o → reads i o.left t.left → Carries o t → Stays o t → SameSettings o t → Carries v w → Going a s f w
going_begins a o t v w i s f k h es ef ek ev eh ew = rw (ew, ev, ek, eh, es, ef) (λ e co qo ko ri ct st kt cw.
    let balanced : 1 + closes a.left + opens t.left ≡ opens a.left + closes t.left = omega (arith, reads_balanced i o.left t.left ri, ap opens e, ap closes e) in
    let more : a.taken ≤ t.taken = taken_more a t (λ x z. ct x (co x z)) in
    record {
      exact = rw (st.0, qo.0, st.1, qo.2, st.2, qo.3) (begins i None a.left o.left t.left (start a.turns a.peak a.held) e ri);
      hints = refl;
      unhinted = (refl, tt);
      spans = refl;
      counts = λ x z. cw x (carries_height a t _ 1 (λ x z. ct x (co x z)) balanced refl x z);
      turned = omega (arith, st.0, qo.0, more);
      balanced = balanced;
      settings = (kt.0 ∙ ko.0, kt.1 ∙ ko.1);
    })

-- ---- the exits

pub going_smaller : (b t u v w : State) (s s' : List OpenGroup) (f f' : Flat) (k h : ℕ) → t ≡ record b { turns = b.turns + 1 } → v ≡ record u { peak = max u.peak k } → w ≡ record v { held = max v.held h }
    → (s ≡ [] → ⊥) → Opens (group_state s t.left f) (group_state s' u.left f') ⊎ Closes (group_state s t.left f) (group_state s' u.left f') → length w.left < length b.left
going_smaller b t u v w s s' f f' k h et ev ew = rw (et, ew, ev) (λ some turned. (steps s s' b.left u.left f f' some turned).shorter)

-- if no turn is possible, nothing is read
pub going_halts : (a b t : State) (s : List OpenGroup) (f : Flat) → t ≡ record b { turns = b.turns + 1 } → Going a s f b → (s ≡ [] → ⊥) → IsHalted (group_state s t.left f) → folded_reads a.left ≡ None
going_halts a b t s f et = rw et (λ g some x. read_none a.left (λ i gs r k. halts s b.left (sum_of f b) some x.opens x.closes (whole i gs (start a.turns a.peak a.held)) r (g.exact.forth i gs r k)))

-- if no group is open, one group was read
pub going_ends : (a b : State) (s : List OpenGroup) (e : Expression) → Going a s (flat e) b → s ≡ [] → IsFolded a b e
going_ends a b s e g none =
    let w = g.exact.back (sum_of (flat e) b) b.left (rw none (refl, refl)) in
    let y = whole_is w.0 w.1 a.turns a.peak a.held in
    let p = ap (λ (y : Sum). y.instrs) w.3 ∙ y.0 in
    record {
      instr = w.0;
      within = w.1;
      listed = w.2;
      value = λ j. record { instrs = p j; hints = g.hints j };
      turned = omega (arith, ap (λ (y : Sum). y.turns) w.3, y.1);
      peak = omega (arith, ap (λ (y : Sum). y.peak) w.3, y.2);
      held = ap (λ (y : Sum). y.held) w.3 ∙ y.3;
    }

pub folded_found : (a b : State) (e : Expression) → IsFolded a b e → folded_reads a.left ≡ Some (expression_view e, b.left)
folded_found a b e x =
    read_folded x.instr x.within a.left b.left x.listed ∙ ap (λ (v : ExpressionModel). some_of (v, b.left)) (sym x.value)

-- a refusal adds at most one turn
pub refused_first : (a o b : State) → Carries a o → o.turns ≡ a.turns → Carries o b → b.turns ≡ o.turns → b.turns + a.taken ≤ a.turns + b.taken + 1
refused_first a o b c e d f = omega (arith, taken_more a o c, taken_more o b d, e, f)

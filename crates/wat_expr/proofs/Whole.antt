-- The invariant of the loop over the tokens of an expression, and its consequences at the end.
use Rattle.std.proofs.Common.{◌≢◌, max, map, if◌then◌else◌, ◌≡◌, ℕ, ◌+◌, ◌≤◌, List, [], ◌∷◌, length, Option, Some, None, Bool, true, false, Result, Ok, Err, refl, sym, ap, subst, ◌∙◌, arith}
use Rattle.wat_expr.specs.Prelude.{length-map, Carries, SameSettings, Stays, Error, Memory, Read, State, ends, Token, by_read, some_is, filled_behind, Gives, NotHeapless, owning, no_items, instruction_view, ExpressionModel, expression_view, heapless_expression, value_of, SpansAre, flat, no_output, Items, Nil, Plain, Folded, Block, IfThen, IfElse, Hinted, lists, unfolded, heads_in, TalliedFlat, emit, Fits, Finishes, Tallies, with_tallies, state_with, Balanced, Turn, Stuck, lists_between, stops_end, expression}
use Rattle.wat_tokens.specs.Laws.Filled.{filled_before}
use Rattle.wat_tokens.specs.Parses.{Accepts}
use Rattle.wat_expr.specs.Progress.{TalliedState, Same}
use Rattle.wat_tokens.specs.Laws.Error.{by_fault}
use Rattle.wat_expr.specs.declared.expression.Expression.{Expression}
use Rattle.wat_expr.specs.declared.reader.Reader.{Reader}
use Rattle.wat_expr.specs.ItemsRead.{IsListed}
use Rattle.wat_expr.specs.Turned.{stand}
use Rattle.wat_expr.proofs.FoldedLoop.{not_heapless_of}
use Rattle.wat_expr.proofs.Flatten.{flat_out, Spanned}
use Rattle.wat_expr.proofs.Heights.{carries_height, taken_one, refused_turns}
use Rattle.wat_expr.proofs.Turns.{any_items, unpending, at}

-- the counters, with n items
abbrev pub counters : ℕ → State → Tallies
counters n b = record { items = n; peak = b.peak; held = b.held }

-- the tallied output before any token is read
abbrev pub first : State → TalliedFlat
first a = with_tallies (no_output a.tracks) (counters 0 a)

abbrev pub start : State → TalliedState
start a = state_with (at [] None a.left (no_output a.tracks)) (counters 0 a)

-- The loop started in the state a. Now the parser is in the state b, with the reader r.
pub record Reading (a b : State) (r : Reader) : Type 0 where
  pub items : ℕ
  pub turns : a.turns + items ≤ b.turns
  pub same : Same (start a) (state_with (stand r b.left) (counters items b))
  pub counts : Carries a b
  pub turned : b.turns + a.taken ≤ a.turns + b.taken
  pub height : Balanced 0 a.left (length r.open_groups) b.left
  pub idle : ends a.left ≡ true → (r.open_groups ≡ []) × (b.left ≡ a.left)
  pub settings : SameSettings a b

pub begins : (a : State) (r : Reader) → r.open_groups ≡ [] → flat r.out ≡ no_output a.tracks → r.pending ≡ None → Reading a a r
begins a r es ef ep = record {
  items = 0;
  turns = omega arith;
  same = rw (es, ef, ep) (record { forth = λ o r k. k; back = λ o r k. k });
  counts = λ s c. c;
  turned = omega arith;
  height = let l : length r.open_groups ≡ 0 = ap length es in omega (arith, l);
  idle = λ e. (es, refl);
  settings = (refl, refl);
}

-- a turn was refused
pub refused_counts : (a b t u : State) (r : Reader) → t ≡ record b { turns = b.turns + 1 } → Reading a b r → Carries t u → Stays t u → Carries b t → Carries a u × (u.turns + a.taken ≤ a.turns + u.taken + 1)
refused_counts a b t u r tick w counts stays c = ((λ s k. counts s (c s (w.counts s k))), refused_turns a b t u w.turned tick counts stays.0)

-- a turn was made, and the heights were noted
pub goes_on : (a b t u v x : State) (r r2 : Reader) (k h : ℕ) → t ≡ record b { turns = b.turns + 1 } → k ≡ length r2.open_groups → h ≡ heads_in r2.open_groups → v ≡ record u { peak = max u.peak k } → x ≡ record v { held = max v.held h }
    → Reading a b r → Carries t u → Stays t u → SameSettings t u → Carries b t → (r.open_groups ≡ [] → ends b.left ≡ true → ⊥) → Turn (stand r t.left) (stand r2 u.left) → Carries v x → Reading a x r2
goes_on a b t u v x r r2 k h tick ek eh ev ex = rw (tick, ex, ev, ek, eh) (λ w counts stays settings c undone turn cx.
    let s = turn.same (counters w.items b) in
    let more : b.taken + 1 ≤ u.taken = taken_one _ u counts turn.shorter in
    let high : Balanced 0 a.left (length r2.open_groups) u.left = (let m = w.height in let n = turn.balanced in omega (arith, m, n)) in
    record {
      items = s.0;
      turns = omega (arith, w.turns, s.1, stays.0);
      same = rw (stays.1, stays.2) (record { forth = λ o r k. s.2.forth o r (w.same.forth o r k); back = λ o r k. w.same.back o r (s.2.back o r k) });
      counts = λ q z. cx q (carries_height a u _ (length r2.open_groups) (λ s k. counts s (c s (w.counts s k))) (omega (arith, high)) refl q z);
      turned = omega (arith, w.turned, stays.0, more);
      height = high;
      idle = λ e. let i = w.idle e in absurd (undone i.0 (ap ends i.1 ∙ e));
      settings = (settings.0 ∙ w.settings.0, settings.1 ∙ w.settings.1);
    })

-- ---- tokens that list no items

-- no prefix of ts lists items up to the end
abbrev pub Unlisted : List Token → Type 0
Unlisted ts = (xs : Items) (r : List Token) → lists xs ts r → ends r ≡ true → ⊥

not_listed : (a b : State) (r : Reader) → Reading a b r → Stuck (stand r b.left) → Unlisted a.left
not_listed a b r w stuck xs u l e = stuck (counters w.items b) (emit 0 0 None xs (first a)) u (w.same.forth (emit 0 0 None xs (first a)) u (xs, u, l, tt, any_items xs, (e, refl, refl)))

pub left_pending : (a b : State) (r : Reader) (v : ℕ) → Reading a b r → r.pending ≡ Some v → ends b.left ≡ true → Unlisted a.left
left_pending a b r v w ep e = not_listed a b r w (unpending r.open_groups r.pending v b.left (flat r.out) ep (λ _. stops_end b.left e))

-- ---- the end

-- there is one span for each instruction
span_cases : (V : Type 0) (len : V → ℕ) (o : Option V) (keeps : Bool) (n m : ℕ) → n ≡ m → (elim o as (λ _. Option ℕ) [ Some v ↦ Some (len v) | None ↦ None ]) ≡ (if keeps then Some n else None) → elim o as (λ _. Type 0) [ Some v ↦ (keeps ≡ true) × (len v ≡ m) | None ↦ keeps ≡ false ]
span_cases V len (Some v) true n m q e = (refl, (let k : len v ≡ n = cc in k ∙ q))
span_cases V len None false n m q e = refl
span_cases V len o keeps n m q e = absurd cc

spans_are : (keeps : Bool) (x : Expression) → Spanned keeps (flat x) → SpansAre keeps x
spans_are keeps x s = span_cases _ (λ v. length v.items) x.instr_spans keeps (length (map instruction_view x.instrs.items)) (length x.instrs.items) (length-map x.instrs.items instruction_view) s

-- the value, the numbers and the spans
finished : (a b : State) (r : Reader) (n : ℕ) → a.turns + n ≤ b.turns → ends b.left ≡ true → Finishes (with_tallies (flat r.out) (counters n b)) b.left (start a) → IsListed a b r.out × SpansAre a.tracks r.out
finished a b r n turns e (xs, rest, l, fit, only, (e2, here, is)) =
    let c = flat_out xs (first a) in
    let p = ap (λ (c : TalliedFlat). c.out.instrs) (sym is) ∙ c.0 in
    let q = ap (λ (c : TalliedFlat). c.out.hints) (sym is) ∙ c.1 in (
      record {
        items = xs;
        listed = rw here at l;
        ended = e;
        value = λ j. record { instrs = p j; hints = q j };
        turned = omega (arith, turns, c.3.0, ap (λ (c : TalliedFlat). c.items) is);
        peak = omega (arith, c.3.1, ap (λ (c : TalliedFlat). c.peak) is);
        held = omega (arith, c.3.2, ap (λ (c : TalliedFlat). c.held) is);
      },
      spans_are a.tracks r.out (subst (λ (c : TalliedFlat). Spanned a.tracks c.out) is (c.2 a.tracks refl)),
    )

pub listed : (a b : State) (r : Reader) → Reading a b r → r.open_groups ≡ [] → r.pending ≡ None → ends b.left ≡ true → IsListed a b r.out × SpansAre a.tracks r.out
listed a b r w es ep e = let same = rw (es, ep) at w.same in finished a b r w.items w.turns e (same.back (with_tallies (flat r.out) (counters w.items b)) b.left (Nil, b.left, refl, tt, tt, (e, refl, refl)))

-- ---- consequences for the production

-- listed items are read
pub reads_listed : (xs : Items) (ts r : List Token) → lists xs ts r → ends r ≡ true → expression.reads ts ≡ Some (value_of xs, r)
unfolding expression
reads_listed xs ts r l e =
    let b = lists_between xs ts r l in
    ap expression.reads b.is ∙ expression.complete (value_of xs) b.front r (xs, rw b.is at l, e, refl)

-- if no items are listed, nothing is read
pub reads_nothing_listed : (ts : List Token) → Unlisted ts → expression.reads ts ≡ None
unfolding expression
reads_nothing_listed ts never =
    by_read (expression.reads ts)
    (λ x e. (let f = expression.sound ts x e in let l = f.2 in absurd (never l.0 x.1 (rw (← f.1) at l.1) l.2)))
    (λ e. e)

-- items after a hint, and items of at least one token, have an instruction
some_listed : (p : Option ℕ) (xs : Items) (ts r : List Token) → Fits p xs → lists xs ts r → (p ≡ None → ts ≡ r → ⊥) → no_items (unfolded xs) ≡ false
some_listed None Nil ts r f l n = absurd (n refl l)
some_listed (Some v) Nil ts r f l n = absurd f
some_listed p (Plain i xs) ts r f l n = refl
some_listed p (Folded i ys xs) ts r f l n = filled_before _ (unfolded xs) (filled_behind (unfolded ys) (i ∷ []) refl)
some_listed p (Block i ys xs) ts r f l n = refl
some_listed p (IfThen i ops th xs) ts r f l n = filled_before _ (unfolded xs) (filled_behind (unfolded ops) (i ∷ _) refl)
some_listed p (IfElse i ops th el xs) ts r f l n = filled_before _ (unfolded xs) (filled_behind (unfolded ops) (i ∷ _) refl)
some_listed None (Hinted v xs) ts r f l n = some_listed (Some v) xs l.0 r l.3 l.4 (λ e q. cc)
some_listed (Some u) (Hinted v xs) ts r f l n = absurd f

-- if the tokens do not end at once, they spell no heapless value
pub not_heapless : (ts : List Token) → (ends ts ≡ true → ⊥) → NotHeapless heapless_expression (expression.reads ts)
unfolding expression
not_heapless ts more =
    not_heapless_of (expression.reads ts)
    (λ y e. (let f = expression.sound ts y e in
    let l = f.2 in
    let k = some_listed None l.0 ts y.1 tt (rw (← f.1) at l.1) (λ p q. more (ap ends q ∙ l.2)) in
    ap (λ (v : ExpressionModel). no_items v.instrs) l.3 ∙ k))

-- ---- the exits

pub found : (a b : State) (x : Expression) → IsListed a b x → expression.reads a.left ≡ Some (expression_view x, b.left)
found a b x l = reads_listed l.items a.left b.left l.listed l.ended ∙ ap (λ (v : ExpressionModel). Some (v, b.left)) (sym l.value)

-- a turn was refused
pub refused : (a b t : State) (r : Reader) (e : Error) → Reading a b r → t ≡ record b { turns = b.turns + 1 } → (r.open_groups ≡ [] → ends b.left ≡ true → ⊥) → (e.fault ≢ Memory → Stuck (stand r t.left))
    → (e.fault ≢ Memory → expression.reads a.left ≡ None) × (e.fault ≡ Memory → NotHeapless heapless_expression (expression.reads a.left))
refused a b t r e w tick undone stuck = (
  (λ n. reads_nothing_listed a.left (not_listed a b r w (rw (ap (λ (s : State). s.left) tick) at (stuck n)))),
  (λ m. (not_heapless a.left (λ k. (let i = w.idle k in undone i.0 (ap ends i.1 ∙ k))))),
)

-- the value that the tokens spell is returned, or memory ran out and the value isn't heapless
pub read_accepted : (res : Result Expression Error) (read : Read ExpressionModel) (left : List Token) → Gives (owning expression_view heapless_expression) res read left
    → (v : ExpressionModel) (r : List Token) → read ≡ Some (v, r) → Accepts (owning expression_view heapless_expression) res v left r
read_accepted (Ok x) read left g v r e =
    let s = some_is (expression_view x, left) (v, r) (sym g ∙ e) in
    (ap (λ (y : ExpressionModel × List Token). y.0) s, ap (λ (y : ExpressionModel × List Token). y.1) s)
read_accepted (Err f) read left g v r e =
    by_fault f.fault
    (λ m. (m, rw e at (g.1 m)))
    (λ not. (let none : read ≡ None = g.0 not in cc))

-- the value of listed items is returned, or memory ran out
pub accepted : (res : Result Expression Error) (ts left : List Token) → Gives (owning expression_view heapless_expression) res (expression.reads ts) left
    → (xs : Items) (r : List Token) → lists xs ts r → ends r ≡ true → Accepts (owning expression_view heapless_expression) res (value_of xs) left r
accepted res ts left g xs r l e = read_accepted res (expression.reads ts) left g (value_of xs) r (reads_listed xs ts r l e)

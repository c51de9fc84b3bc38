-- Laws: tokens that spell an expression, or a folded instruction, before one rest spell it before each alike rest.
use Rattle.std.proofs.Common.{◌≡◌, true, List, [], ◌∷◌, ◌++◌, codes, refl, ap, sym, ◌∙◌, append_assoc, subst}
use Rattle.wat_instr.specs.Prelude.{append_cancel_right, Token, LParen, RParen, String, everything, Alike, InstructionModel, instruction}
use Rattle.wat_tokens.specs.Laws.Moves.{all_asked}
use Rattle.wat_tokens.specs.Test.{at_ends}
use Rattle.wat_expr.specs.Items.{reads, keyword, hint_name, Items, Nil, Plain, Folded, Block, IfThen, IfElse, Hinted, lists}
use Rattle.wat_expr.specs.Expression.{ExpressionModel, expression_spells}
use Rattle.wat_expr.specs.Folded.{Groups, NoGroup, Group, groups, folded_spells}

-- ---- the same tokens before t and before u

-- ts is `front` and then t; `new` is `front` and then u
record Beside (t u ts : List Token) : Type 0 where
  front : List Token
  new : List Token
  old_is : ts ≡ front ++ t
  new_is : new ≡ front ++ u

abbrev at_once : (t u ts : List Token) → ts ≡ t → Beside t u ts
at_once t u ts e = record { front = []; new = u; old_is = e; new_is = refl }

-- the same with tokens c in front
abbrev behind : {t u m : List Token} (ts c : List Token) → ts ≡ c ++ m → Beside t u m
    → Beside t u ts
behind {t = t} {u = u} ts c e b = record {
  front = c ++ b.front;
  new = c ++ b.new;
  old_is = e ∙ ap (λ (x : List Token). c ++ x) b.old_is ∙ sym (append_assoc c b.front t);
  new_is = ap (λ (x : List Token). c ++ x) b.new_is ∙ sym (append_assoc c b.front u);
}

abbrev further : {t u m ts : List Token} (b : Beside t u m) → Beside m b.new ts → Beside t u ts
further {t = t} {u = u} b c = record {
  front = c.front ++ b.front;
  new = c.new;
  old_is = c.old_is ∙ ap (λ (x : List Token). c.front ++ x) b.old_is ∙ sym (append_assoc c.front
      b.front t);
  new_is = c.new_is ∙ ap (λ (x : List Token). c.front ++ x) b.new_is ∙ sym (append_assoc c.front
      b.front u);
}

alike_behind : (c t u : List Token) → Alike everything t u → Alike everything (c ++ t) (c ++ u)
alike_behind c t u a = λ e. rw (← append_assoc e c t, ← append_assoc e c u) (a (e ++ c))

alike_beside : {t u ts : List Token} → Alike everything t u → (b : Beside t u ts)
    → Alike everything ts b.new
alike_beside {t = t} {u = u} a b = rw (b.old_is, b.new_is) (alike_behind b.front t u a)

-- ---- relations between tokens and the rest after a value

-- P relates the same front before u to u, if it relates the front before t to t
abbrev Moves : (List Token → List Token → Type 0) → Type 0
Moves P = (ts t u : List Token) → Alike everything t u → P ts t → (b : Beside t u ts) × P b.new u

-- the same for P up to the tokens c, if m follows c and ends in t
moves_before : {P : List Token → List Token → Type 0} {t u m : List Token} → Moves P
    → (ts c : List Token) → Alike everything t u → (b : Beside t u m) → P ts (c ++ m)
    → (d : Beside t u ts) × P d.new (c ++ b.new)
moves_before {m = m} p ts c a b s =
    let d = behind (c ++ m) c refl b in
    let y = p ts (c ++ m) (c ++ b.new) (alike_beside a d) s in
    (further d y.0, y.1)

reads_move : (i : InstructionModel) → Moves (reads i)
reads_move i ts t u a (c, e, s) =
    (record { front = c; new = c ++ u; old_is = e; new_is = refl }, (c, refl {a = c ++ u}, instruction.moves i c t u (all_asked instruction.asks [] t u a) s))

-- `(`, an instruction, P, `)`, and then Q
group_moves : {P Q : List Token → List Token → Type 0} {t u : List Token} (i : InstructionModel)
    → Moves P → Moves Q → (ts a b d : List Token) → Alike everything t u → ts ≡ LParen ∷ a
    → reads i a b → P b (RParen ∷ d) → Q d t
    → (g : Beside t u ts) × (v w x : List Token) × (g.new ≡ LParen ∷ v) × reads i v w
    × P w (RParen ∷ x) × Q x u
group_moves {t = t} {u = u} i p q ts a b d al e h sp sq =
    let x = q d t u al sq in
    let y = moves_before p b (RParen ∷ []) al x.0 sp in
    let f = moves_before (reads_move i) a [] al y.0 h in
    (behind ts (LParen ∷ []) e f.0, f.0.new, y.0.new, x.0.new, refl {a = LParen ∷ f.0.new}, f.1, y.1, x.1)

-- ---- items

lists_move : (xs : Items) → Moves (lists xs)
lists_move Nil ts t u a l = (at_once t u ts l, refl {a = u})
lists_move (Plain i xs) ts t u al (m, h, l) =
    let x = lists_move xs m t u al l in
    let f = moves_before (reads_move i) ts [] al x.0 h in
    (f.0, (x.0.new, f.1, x.1))
lists_move (Folded i ys xs) ts t u al (a, b, d, e, s, h, ly, lx) =
    let g = group_moves i (lists_move ys) (lists_move xs) ts a b d al e h ly lx in
    (g.0, (g.1, g.2, g.3, g.4, s, g.5, g.6, g.7))
lists_move (Block i ys xs) ts t u al (a, b, d, e, s, h, ly, lx) =
    let g = group_moves i (lists_move ys) (lists_move xs) ts a b d al e h ly lx in
    (g.0, (g.1, g.2, g.3, g.4, s, g.5, g.6, g.7))
lists_move (IfThen i ops th xs) ts t u al (a, b, d, e, q, s, h, g, lo, lt, lx) =
    let x = lists_move xs e t u al lx in
    let y = moves_before (lists_move th) d (RParen ∷ RParen ∷ []) al x.0 lt in
    let o = moves_before (lists_move ops) b (LParen ∷ keyword (codes "then") ∷ []) al y.0 lo in
    let f = moves_before (reads_move i) a [] al o.0 h in
    (behind ts (LParen ∷ []) q f.0, (f.0.new, o.0.new, y.0.new, x.0.new, refl, s, f.1, g, o.1, y.1, x.1))
lists_move (IfElse i ops th el xs) ts t u al (a, b, d, e, j, q, s, h, g, lo, lt, le, lx) =
    let x = lists_move xs j t u al lx in
    let z = moves_before (lists_move el) e (RParen ∷ RParen ∷ []) al x.0 le in
    let y = moves_before (lists_move th) d (RParen ∷ LParen ∷ keyword (codes "else") ∷ []) al z.0 lt in
    let o = moves_before (lists_move ops) b (LParen ∷ keyword (codes "then") ∷ []) al y.0 lo in
    let f = moves_before (reads_move i) a [] al o.0 h in
    (behind ts (LParen ∷ []) q f.0, (f.0.new, o.0.new, y.0.new, z.0.new, x.0.new, refl, s, f.1, g, o.1, y.1, z.1, x.1))
lists_move (Hinted v xs) ts t u al (d, e, lt, g, l) =
    let x = lists_move xs d t u al l in
    (behind ts (LParen ∷ hint_name ∷ String (v ∷ []) ∷ RParen ∷ []) e x.0, (x.0.new, refl, lt, g, x.1))

-- groups of a folded instruction
groups_move : (gs : Groups) → Moves (groups gs)
groups_move NoGroup ts t u al l = (at_once t u ts l, refl {a = u})
groups_move (Group i gs hs) ts t u al (a, b, d, e, h, ly, lx) =
    let g = group_moves i (groups_move gs) (groups_move hs) ts a b d al e h ly lx in
    (g.0, (g.1, g.2, g.3, g.4, g.5, g.6, g.7))

-- ---- the productions

module _ {P : List Token → List Token → Type 0} (p : Moves P) where
  -- the tokens before t are c
  front_moves : (c t u : List Token) → Alike everything t u → P (c ++ t) t → P (c ++ u) u
  front_moves c t u a s =
      let x = p (c ++ t) t u a s in
      subst (λ (w : List Token). P w u) (x.0.new_is ∙ ap (λ (y : List Token). y ++ u) (sym
      (append_cancel_right c x.0.front t x.0.old_is))) x.1

pub expression_moves : (v : ExpressionModel) (c t u : List Token) → Alike everything t u
    → expression_spells v c t → expression_spells v c u
expression_moves v c t u a (xs, l, k, e) = (xs, front_moves (lists_move xs) c t u a l, a [] true at_ends k, e)

pub folded_moves : (v : ExpressionModel) (c t u : List Token) → Alike everything t u
    → folded_spells v c t → folded_spells v c u
folded_moves v c t u al (i, gs, (a, b, e, h, l), k) =
    let m = front_moves (groups_move (Group i gs NoGroup)) c t u al (a, b, t, e, h, l, refl) in
    (i, gs, (m.0, m.1, m.3, m.4, subst (λ (w : List Token). groups gs m.1 (RParen ∷ w)) m.6 m.5), k)

-- Listed items have one reading and one flat form.
use Rattle.std.proofs.Common.{◌≡◌, suc, List, ◌∷◌, ◌++◌, length, true, sym, ap, subst, ◌∙◌, arith, refl}
use Rattle.wat_expr.specs.Prelude.{append_cancel_right, some_is, ends, Token, RParen, InstructionModel, Stops, Groups, groups, is_folded, groups_at_complete, reads, Items, lists, Nil, Plain, Folded, Block, IfThen, IfElse, Hinted, stops_end, own, flat_tokens}
use Rattle.wat_expr.specs.Laws.Reading.{items_at_complete}
use Rattle.wat_expr.proofs.Fronts.{reads_one}

-- if both lists end where a list of items can end, the lists are equal
pub one_items : (xs ys : Items) (ts r s : List Token) → Stops r → Stops s → lists xs ts r → lists ys ts s → (xs ≡ ys) × (r ≡ s)
one_items xs ys ts r s p q l k =
    let a = items_at_complete xs (suc (length ts)) ts r (omega arith) p l in
    let b = items_at_complete ys (suc (length ts)) ts s (omega arith) q k in
    let e = some_is (xs, r) (ys, s) (sym a ∙ b) in
    (ap (λ (x : Items × List Token). x.0) e, ap (λ (x : Items × List Token). x.1) e)

one_front : (c d r s : List Token) → c ++ r ≡ d ++ s → r ≡ s → c ≡ d
one_front c d r s e f = append_cancel_right c d s (subst (λ (t : List Token). c ++ t ≡ d ++ s) f e)

pub one_written : (xs ys : Items) (c d r s : List Token) → c ++ r ≡ d ++ s → ends r ≡ true → ends s ≡ true → lists xs (c ++ r) r → lists ys (d ++ s) s → (xs ≡ ys) × (r ≡ s) × (c ≡ d)
one_written xs ys c d r s e p q l k =
    let o = one_items xs ys (c ++ r) r s (stops_end r p) (stops_end s q) l (rw (← e) at k) in
    (o.0, o.1, one_front c d r s e o.1)

one_groups : (gs hs : Groups) (ts r s : List Token) → groups gs ts (RParen ∷ r) → groups hs ts (RParen ∷ s) → (gs ≡ hs) × (r ≡ s)
one_groups gs hs ts r s l k =
    let a = groups_at_complete gs (suc (length ts)) ts r (omega arith) l in
    let b = groups_at_complete hs (suc (length ts)) ts s (omega arith) k in
    let e = some_is (gs, RParen ∷ r) (hs, RParen ∷ s) (sym a ∙ b) in
    let f : RParen ∷ r ≡ RParen ∷ s = ap (λ (x : Groups × List Token). x.1) e in
    (ap (λ (x : Groups × List Token). x.0) e, cc)

one_group : (i j : InstructionModel) (gs hs : Groups) (ts r s : List Token) → is_folded i gs ts r → is_folded j hs ts s → ((i ≡ j) × (gs ≡ hs)) × (r ≡ s)
one_group i j gs hs ts r s (a, b, e, h, l) (a2, b2, e2, h2, l2) =
    let f : a2 ≡ a = cc in
    let o = reads_one i j a b b2 h (rw f at h2) in
    let g = one_groups gs hs b r s l (rw (← o.1) at l2) in
    ((o.0, g.0), g.1)

pub one_folded : (i j : InstructionModel) (gs hs : Groups) (c d r s : List Token) → c ++ r ≡ d ++ s → is_folded i gs (c ++ r) r → is_folded j hs (d ++ s) s → ((i ≡ j) × (gs ≡ hs)) × (r ≡ s) × (c ≡ d)
one_folded i j gs hs c d r s e l k =
    let o = one_group i j gs hs (c ++ r) r s l (rw (← e) at k) in
    (o.0, o.1, one_front c d r s e o.1)

one_left : (i : InstructionModel) (ts us m n : List Token) → ts ≡ us → reads i ts m → reads i us n → m ≡ n
one_left i ts us m n e h k = (reads_one i i ts m n h (rw (← e) at k)).1

one_own : (ts us m n : List Token) → ts ≡ us → m ≡ n → own ts m ≡ own us n
one_own ts us m n e f = rw (e, f) refl

one_rest : (xs : Items) (ts us r s : List Token) → ts ≡ us → Stops r → Stops s → lists xs ts r → lists xs us s → r ≡ s
one_rest xs ts us r s e p q l k = (one_items xs xs ts r s p q l (rw (← e) at k)).1

pub one_flat : (xs : Items) (ts us r s : List Token) → ts ≡ us → Stops r → Stops s → (l : lists xs ts r) (k : lists xs us s) → flat_tokens xs ts r l ≡ flat_tokens xs us s k
one_flat Nil ts us r s e p q l k = refl
one_flat (Plain i xs) ts us r s e p q (m, h, l) (n, g, k) =
    let f = one_left i ts us m n e h g in
    rw (one_own ts us m n e f, one_flat xs m n r s f p q l k) refl
one_flat (Folded i ys xs) ts us r s e p q (a, b, d, o, z, h, ly, lx) (a2, b2, d2, o2, z2, h2, ky, kx) =
    let ea : a ≡ a2 = cc in
    let eb = one_left i a a2 b b2 ea h h2 in
    let ed : d ≡ d2 = cc (one_rest ys b b2 (RParen ∷ d) (RParen ∷ d2) eb tt tt ly ky) in
    rw (one_own a a2 b b2 ea eb, one_flat ys b b2 (RParen ∷ d) (RParen ∷ d2) eb tt tt ly ky, one_flat xs d d2 r s ed p q lx kx) refl
one_flat (Block i ys xs) ts us r s e p q (a, b, d, o, z, h, ly, lx) (a2, b2, d2, o2, z2, h2, ky, kx) =
    let ea : a ≡ a2 = cc in
    let eb = one_left i a a2 b b2 ea h h2 in
    let ed : d ≡ d2 = cc (one_rest ys b b2 (RParen ∷ d) (RParen ∷ d2) eb tt tt ly ky) in
    rw (one_own a a2 b b2 ea eb, one_flat ys b b2 (RParen ∷ d) (RParen ∷ d2) eb tt tt ly ky, one_flat xs d d2 r s ed p q lx kx) refl
one_flat (IfThen i ops th xs) ts us r s e p q (a, b, d, f, o, z, h, g, lo, lt, lx) (a2, b2, d2, f2, o2, z2, h2, g2, ko, kt, kx) =
    let ea : a ≡ a2 = cc in
    let eb = one_left i a a2 b b2 ea h h2 in
    let ed : d ≡ d2 = cc (one_rest ops b b2 _ _ eb refl refl lo ko) in
    let ef : f ≡ f2 = cc (one_rest th d d2 _ _ ed tt tt lt kt) in
    rw (one_own a a2 b b2 ea eb, one_flat ops b b2 _ _ eb refl refl lo ko, one_flat th d d2 _ _ ed tt tt lt kt, one_flat xs f f2 r s ef p q lx kx) refl
one_flat (IfElse i ops th el xs) ts us r s e p q (a, b, d, f, j, o, z, h, g, lo, lt, le, lx) (a2, b2, d2, f2, j2, o2, z2, h2, g2, ko, kt, ke, kx) =
    let ea : a ≡ a2 = cc in
    let eb = one_left i a a2 b b2 ea h h2 in
    let ed : d ≡ d2 = cc (one_rest ops b b2 _ _ eb refl refl lo ko) in
    let ef : f ≡ f2 = cc (one_rest th d d2 _ _ ed tt tt lt kt) in
    let ej : j ≡ j2 = cc (one_rest el f f2 _ _ ef tt tt le ke) in
    rw (one_own a a2 b b2 ea eb, one_flat ops b b2 _ _ eb refl refl lo ko, one_flat th d d2 _ _ ed tt tt lt kt, one_flat el f f2 _ _ ef tt tt le ke, one_flat xs j j2 r s ej p q lx kx) refl
one_flat (Hinted v xs) ts us r s e p q (d, o, z, g, l) (d2, o2, z2, g2, k) =
    let ed : d ≡ d2 = cc in one_flat xs d d2 r s ed p q l k

pub one_form : (xs : Items) (ts r : List Token) (l k : lists xs ts r) → ends r ≡ true → flat_tokens xs ts r l ≡ flat_tokens xs ts r k
one_form xs ts r l k e = one_flat xs ts ts r r refl (stops_end r e) (stops_end r e) l k

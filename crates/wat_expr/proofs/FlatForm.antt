-- The flat form of listed items lists the same instructions.
use Rattle.std.proofs.Common.{if◌then◌else◌, ◌≡◌, ℕ, ◌+◌, ◌-◌, Bool, List, [], ◌∷◌, ◌++◌, length, take, true, None, codes, refl, ap, subst, sym, ◌∙◌, append_assoc, arith, length-append, inr}
use Rattle.wat_expr.specs.Prelude.{append-nil, take-append_seam, Token, LParen, RParen, String, ends, MayFollow, NoTypeSecond, InstructionModel, instruction, else_instr, end_instr, operand, value_of, expression_spells, own, flat_tokens, Groups, NoGroup, Group, groups, is_folded, unfolded_groups, Items, Nil, Plain, Folded, Block, IfThen, IfElse, Hinted, reads, lists, unfolded, hints, keyword, hint_name}
use Rattle.wat_expr.specs.FlatForm.{one_by_one, AreInstructions, flat_groups, flat_folded, flat_value, how_many, PassesOwnAlone}
use Rattle.wat_mnemonics.specs.declared.op.Op.TheVariants as ops
use Rattle.wat_mnemonics.specs.declared.indexed.LabelOp.TheVariants as label
use Rattle.wat_instr.specs.Operand as operands

-- ---- own tokens

own_is : (c m : List Token) → own (c ++ m) m ≡ c
own_is c m =
    let n : length (c ++ m) - length m ≡ length c = omega (arith, length-append c m) in
    ap (λ (k : ℕ). take k (c ++ m)) n ∙ take-append_seam c m

-- the own tokens are a prefix of the tokens and spell the instruction
pub own_front : (i : InstructionModel) (ts m : List Token) → reads i ts m → (ts ≡ own ts m ++ m) × instruction.spells i (own ts m) m
own_front i ts m h =
    let o : h.0 ≡ own ts m = sym (ap (λ (t : List Token). own t m) h.1 ∙ own_is h.0 m) in
    (h.1 ∙ ap (λ (c : List Token). c ++ m) o, subst (λ (c : List Token). instruction.spells i c m) o h.2)

-- ---- items without groups and hints

chained : (is js : List InstructionModel) (ts m r : List Token) → lists (one_by_one is) ts m → lists (one_by_one js) m r → lists (one_by_one (is ++ js)) ts r
chained [] js ts m r l k = subst (λ (t : List Token). lists (one_by_one js) t r) (sym l) k
chained (i ∷ is) js ts m r (n, h, l) k = (n, h, chained is js n m r l k)

unfolds : (is : List InstructionModel) → unfolded (one_by_one is) ≡ is
unfolds [] = refl
unfolds (i ∷ is) = ap (λ (js : List InstructionModel). i ∷ js) (unfolds is)

no_hints : (is : List InstructionModel) (b : ℕ) → hints (one_by_one is) b ≡ []
no_hints [] b = refl
no_hints (i ∷ is) b = no_hints is (b + 1)

flat_value_is : (is : List InstructionModel) → flat_value is ≡ value_of (one_by_one is)
flat_value_is is = rw (unfolds is, no_hints is 0) refl

-- ---- the added keywords

else_spelled : instruction.spells else_instr (keyword (codes "else") ∷ []) []
unfolding instruction operand
else_spelled = (ops.Label label.else_, keyword (codes "else") ∷ [], [], refl, refl, (operands.label None, (None, (refl, refl), refl, refl), refl, refl))

end_spelled : instruction.spells end_instr (keyword (codes "end") ∷ []) []
unfolding instruction operand
end_spelled = (ops.Label label.end, keyword (codes "end") ∷ [], [], refl, refl, (operands.label None, (None, (refl, refl), refl, refl), refl, refl))

-- ---- the flat form

-- before each rest that may follow, the tokens list the instructions; the tokens with the rest may
-- also follow
record IsFlat (is : List InstructionModel) (c : List Token) : Type 0 where
  pub before : (s : List Token) → MayFollow s → lists (one_by_one is) (c ++ s) s × MayFollow (c ++ s)

nothing : IsFlat [] []
nothing = record { before = λ s f. (refl, f) }

both : {is js : List InstructionModel} {c d : List Token} → IsFlat is c → IsFlat js d → IsFlat (is ++ js) (c ++ d)
both {is = is} {js = js} {c = c} {d = d} p q = record {
  before = λ s f. (let y = q.before s f in
      let x = p.before (d ++ s) y.1 in
      (rw (append_assoc c d s) (chained is js (c ++ (d ++ s)) (d ++ s) s x.0 y.0), rw (append_assoc c d s) x.1));
}

-- the statement of the law of instructions
abbrev pub Stands : Type 0
Stands = (v : InstructionModel) (c r s : List Token) → instruction.spells v c r → MayFollow s → instruction.spells v c s

abbrev pub Follow : Type 0
Follow = (v : InstructionModel) (c r s : List Token) → instruction.spells v c r → MayFollow s → MayFollow (c ++ s)

module _ (stands : Stands) (follow : Follow) where
  spelled : (i : InstructionModel) (c r : List Token) → instruction.spells i c r → IsFlat (i ∷ []) c
  spelled i c r h = record { before = λ s f. ((s, (c, refl, stands i c r s h f), refl), follow i c r s h f) }

  single : (i : InstructionModel) (ts m : List Token) → reads i ts m → IsFlat (i ∷ []) (own ts m)
  single i ts m h = spelled i (own ts m) m (own_front i ts m h).1

  end_flat : IsFlat (end_instr ∷ []) (keyword (codes "end") ∷ [])
  end_flat = spelled end_instr (keyword (codes "end") ∷ []) [] end_spelled

  items_flat : (xs : Items) (ts r : List Token) (l : lists xs ts r) → IsFlat (unfolded xs) (flat_tokens xs ts r l)
  items_flat Nil ts r l = nothing
  items_flat (Plain i xs) ts r (m, h, l) = both (single i ts m h) (items_flat xs m r l)
  items_flat (Folded i ys xs) ts r (a, b, d, e, s, h, ly, lx) =
      both (both (items_flat ys b _ ly) (single i a b h)) (items_flat xs d r lx)
  items_flat (Block i ys xs) ts r (a, b, d, e, s, h, ly, lx) =
      both (both (single i a b h) (both (items_flat ys b _ ly) end_flat)) (items_flat xs d r lx)
  items_flat (IfThen i ops th xs) ts r (a, b, d, e, q, s, h, g, lo, lt, lx) =
      both (both (items_flat ops b _ lo) (both (single i a b h) (both (items_flat th d _ lt) end_flat))) (items_flat xs e r lx)
  items_flat (IfElse i ops th el xs) ts r (a, b, d, e, f, q, s, h, g, lo, lt, le, lx) =
      both (both (items_flat ops b _ lo) (both (single i a b h) (both (items_flat th d _ lt) (both (spelled else_instr _ [] else_spelled) (both (items_flat el e _ le) end_flat))))) (items_flat xs f r lx)
  items_flat (Hinted v xs) ts r (d, e, lt, g, l) = items_flat xs d r l

  groups_flat : (gs : Groups) (ts r : List Token) (l : groups gs ts r) → IsFlat (unfolded_groups gs) (flat_groups gs ts r l)
  groups_flat NoGroup ts r l = nothing
  groups_flat (Group i gs hs) ts r (a, b, d, e, h, l, k) = both (both (groups_flat gs b _ l) (single i a b h)) (groups_flat hs d r k)

  -- ---- the laws

  pub elsewhere : (xs : Items) (ts r s : List Token) (l : lists xs ts r) → MayFollow s → lists (one_by_one (unfolded xs)) (flat_tokens xs ts r l ++ s) s
  elsewhere xs ts r s l f = ((items_flat xs ts r l).before s f).0

  pub written : (xs : Items) (ts r : List Token) (l : lists xs ts r) → ends r ≡ true → NoTypeSecond r → lists (one_by_one (unfolded xs)) (flat_tokens xs ts r l ++ r) r
  written xs ts r l e n = elsewhere xs ts r r l (inr e, n)

  pub spells_again : (xs : Items) (ts r : List Token) (l : lists xs ts r) → ends r ≡ true → NoTypeSecond r → expression_spells (flat_value (unfolded xs)) (flat_tokens xs ts r l) r
  spells_again xs ts r l e n = (one_by_one (unfolded xs), written xs ts r l e n, e, flat_value_is (unfolded xs))

  at_end : (is : List InstructionModel) (c : List Token) → IsFlat is c → lists (one_by_one is) c []
  at_end is c p = subst (λ (t : List Token). lists (one_by_one is) t []) (append-nil c) (p.before [] (inr refl, (refl, refl, refl))).0

  pub folded_again : (i : InstructionModel) (gs : Groups) (ts r : List Token) (l : is_folded i gs ts r) → lists (one_by_one (unfolded_groups gs ++ i ∷ [])) (flat_folded i gs ts r l) []
  folded_again i gs ts r (a, b, e, h, l) = at_end _ _ (both (groups_flat gs b _ l) (single i a b h))

  pub headed_again : (i : InstructionModel) (xs : Items) (a b r : List Token) (h : reads i a b) (l : lists xs b (RParen ∷ r)) → lists (one_by_one (unfolded xs ++ i ∷ [])) (flat_tokens xs b (RParen ∷ r) l ++ own a b) []
  headed_again i xs a b r h l = at_end _ _ (both (items_flat xs b _ l) (single i a b h))

number-append : (test : Token → Bool) (c d : List Token) → how_many test (c ++ d) ≡ how_many test c + how_many test d
number-append test [] d = omega arith
number-append test (x ∷ c) d = omega (arith, number-append test c d)

module _ (test : Token → Bool) (p : PassesOwnAlone test) where
  abbrev IsNone : Token → Type 0
  IsNone x = ◌≡◌ {A = ℕ} (if test x then 1 else 0) 0

  frames : IsNone LParen × IsNone RParen × IsNone (keyword (codes "then")) × IsNone (keyword (codes "else")) × IsNone (keyword (codes "end")) × IsNone hint_name
  frames = (rw p.0, rw p.1, rw p.2, rw p.3, rw p.4, rw p.5)

  own_number : (i : InstructionModel) (ts m : List Token) → reads i ts m → how_many test ts ≡ how_many test (own ts m) + how_many test m
  own_number i ts m h = ap (how_many test) (own_front i ts m h).0 ∙ number-append test (own ts m) m

  pub items_number : (xs : Items) (ts r : List Token) (l : lists xs ts r) → how_many test ts ≡ how_many test (flat_tokens xs ts r l) + how_many test r
  items_number Nil ts r l = ap (how_many test) l ∙ omega arith
  items_number (Plain i xs) ts r (m, h, l) = omega (arith, own_number i ts m h, items_number xs m r l, number-append)
  items_number (Folded i ys xs) ts r (a, b, d, e, s, h, ly, lx) =
      omega (arith, frames, number-append, ap (how_many test) e, own_number i a b h, items_number ys b (RParen ∷ d) ly, items_number xs d r lx)
  items_number (Block i ys xs) ts r (a, b, d, e, s, h, ly, lx) =
      omega (arith, frames, number-append, ap (how_many test) e, own_number i a b h, items_number ys b (RParen ∷ d) ly, items_number xs d r lx)
  items_number (IfThen i ops th xs) ts r (a, b, d, e, q, s, h, g, lo, lt, lx) =
      let o = items_number ops b _ lo in
      let t = items_number th d _ lt in
      omega (arith, frames, number-append, ap (how_many test) q, own_number i a b h, o, t, items_number xs e r lx)
  items_number (IfElse i ops th el xs) ts r (a, b, d, e, f, q, s, h, g, lo, lt, le, lx) =
      let o = items_number ops b _ lo in
      let t = items_number th d _ lt in
      let u = items_number el e _ le in
      omega (arith, frames, number-append, number-append test (flat_tokens el e (RParen ∷ RParen ∷ f) le) (keyword (codes "end") ∷ []), ap (how_many test) q, own_number i a b h, o, t, u, items_number xs f r lx)
  items_number (Hinted v xs) ts r (d, e, lt, g, l) =
      let z : IsNone (String (v ∷ [])) = rw (p.6 v) in omega (arith, frames, z, ap (how_many test) e, items_number xs d r l)

  pub groups_number : (gs : Groups) (ts r : List Token) (l : groups gs ts r) → how_many test ts ≡ how_many test (flat_groups gs ts r l) + how_many test r
  groups_number NoGroup ts r l = ap (how_many test) l ∙ omega arith
  groups_number (Group i gs hs) ts r (a, b, d, e, h, l, k) =
      omega (arith, frames, number-append, ap (how_many test) e, own_number i a b h, groups_number gs b (RParen ∷ d) l, groups_number hs d r k)

  pub folded_number : (i : InstructionModel) (gs : Groups) (ts r : List Token) (l : is_folded i gs ts r) → how_many test ts ≡ how_many test (flat_folded i gs ts r l) + how_many test r
  folded_number i gs ts r (a, b, e, h, l) = omega (arith, frames, number-append, ap (how_many test) e, own_number i a b h, groups_number gs b (RParen ∷ r) l)

-- items without groups and hints are their own flat form
pub already_flat : (xs : Items) (ts r : List Token) (l : lists xs ts r) → AreInstructions xs → flat_tokens xs ts r l ++ r ≡ ts
already_flat Nil ts r l p = sym l
already_flat (Plain i xs) ts r (m, h, l) p = append_assoc (own ts m) (flat_tokens xs m r l) r ∙ ap (λ (t : List Token). own ts m ++ t) (already_flat xs m r l p.1) ∙ sym (own_front i ts m h).0
already_flat xs ts r l p = absurd p.0

-- Laws: groups without labels are the labelled groups in which no parameter has a label.
use Rattle.std.proofs.Common.{◌≡◌, ℕ, true, false, not, ◌&&◌, List, [], ◌∷◌, ◌++◌, codes, Option, Some, None, flat_map, refl, sym, ◌∙◌, inl, inr, append_assoc, subst}
use Rattle.wat_tokens.specs.Laws.Prelude.{first_so, second_so, both_true, Token, LParen, RParen, Id, Annotation, begins_id, more, Production, group, identifier, name_annotation, begins_name, opt_spells, by_test, many_spells}
use Rattle.wat_types.specs.Reference.{ref_type, shorthand}
use Rattle.wat_types.specs.Value.{ValTypeModel, val_type}
use Rattle.wat_types.specs.Label.{Label, label_of, label, labelled, begins_label}
use Rattle.wat_types.specs.Group.{ParamModel, labelled_param, plain_params, params, Group, func_group, group_follows, params_in, unlabelled}

-- ---- a value type is no label

reads_no_label : (t : List Token) (x : ValTypeModel × List Token) → val_type.reads t ≡ Some x
    → begins_label t ≡ false
unfolding val_type ref_type shorthand
reads_no_label [] x e = refl
reads_no_label (Id n ∷ t) x e = absurd cc
reads_no_label (LParen ∷ Annotation n ∷ t) x e = absurd cc
reads_no_label (LParen ∷ t) x e = refl
reads_no_label (_ ∷ t) x e = refl

ends_no_label : (t : List Token) → more t ≡ false → begins_label t ≡ false
ends_no_label [] e = refl
ends_no_label (Id n ∷ t) e = absurd cc
ends_no_label (LParen ∷ t) e = absurd cc
ends_no_label (_ ∷ t) e = refl

plain_no_label : (ps : List ParamModel) (c r : List Token) → plain_params.spells ps c r
    → begins_label (c ++ r) ≡ false
unfolding plain_params
plain_no_label [] c r s = rw (s.0) (ends_no_label r s.1)
plain_no_label (p ∷ ps) c r s =
    let e : c ++ r ≡ s.0 ++ (s.1 ++ r) = rw (s.2) (append_assoc s.0 s.1 r) in
    rw e (reads_no_label (s.0 ++ (s.1 ++ r)) (s.4.0, s.1 ++ r)
    (val_type.complete s.4.0 s.0 (s.1 ++ r) s.4.1))

plain_unlabelled : (ps : List ParamModel) (c r : List Token) → plain_params.spells ps c r
    → unlabelled ps ≡ true
unfolding plain_params
plain_unlabelled [] c r s = refl
plain_unlabelled (p ∷ ps) c r s =
    subst (λ (q : ParamModel). (not (labelled q.label) && unlabelled ps) ≡ true) s.4.3
    (plain_unlabelled ps s.1 r s.5)

-- ---- the content of a param group

params_allow : (ps : List ParamModel) (c r : List Token) → (params false).spells ps c r
    → (params true).spells ps c r × (unlabelled ps ≡ true)
unfolding params
params_allow ps c r (inl s) = absurd (let f : false ≡ true = s.0 in cc)
params_allow ps c r (inr s) = (inr (plain_no_label ps c r s.1, s.1), plain_unlabelled ps c r s.1)

-- if the tokens begin a label, the label has an id or a name
has_part : (i n : Option (List ℕ)) (d e r : List Token)
    → opt_spells begins_id identifier i d (e ++ r)
    → opt_spells begins_name name_annotation n e r → begins_label (d ++ (e ++ r)) ≡ true
    → labelled (label_of i n) ≡ true
has_part (Some i) n d e r p q k = refl
has_part None (Some n) d e r p q k = refl
has_part None None d e r p q k =
    let begun : begins_label r ≡ true = rw (p.0, q.0) at k in
    let no_id : begins_id r ≡ false = rw q.0 at p.1 in
    let not : begins_label r ≡ false = rw (no_id, q.1) refl in
    absurd cc

has_label : (l : Label) (c r : List Token) → label.spells l c r → begins_label (c ++ r) ≡ true
    → labelled l ≡ true
unfolding label
has_label l c r s k =
    let q = s.1 in
    let e : c ++ r ≡ q.0 ++ (q.1 ++ r) = rw (q.2) (append_assoc q.0 q.1 r) in
    subst (λ (m : Label). labelled m ≡ true) s.3
    (has_part s.0.0 s.0.1 q.0 q.1 r q.3 q.4 (rw e at k))

params_forbid : (ps : List ParamModel) (c r : List Token) → (params true).spells ps c r
    → unlabelled ps ≡ true → (params false).spells ps c r
unfolding params
params_forbid ps c r (inl s) u =
    let q = s.1.1 in
    let e : c ++ r ≡ q.0 ++ (q.1 ++ r) = rw (q.2) (append_assoc q.0 q.1 r) in
    let named = has_label s.1.0.0 q.0 (q.1 ++ r) q.3 (rw e at s.0) in
    let one : unlabelled (labelled_param s.1.0) ≡ true =
    subst (λ (l : List ParamModel). unlabelled l ≡ true) (sym s.1.3) u in
    absurd (let f : false ≡ true = rw named at one in cc)
params_forbid ps c r (inr s) u = inr (refl, s.1)

-- ---- groups

module _ {A : Type 0} (w : List ℕ) (g h : Production A) (Q P : A → Type 0) where
  -- a fact about the part in a group carries over to the group
  group_maps : ((v : A) (c r : List Token) → g.spells v c r → Q v → h.spells v c r × P v)
      → (v : A) (c r : List Token) → (group w g).spells v c r → Q v → (group w h).spells v c r × P v
  group_maps f v c r s u =
      let a = s.2.0 in
      let q = s.2.1 in
      let m = f a.1 q.1 (RParen ∷ r) q.4 (subst Q (sym s.2.3) u) in
      ((s.0, s.1, (a, (q.0, q.1, q.2, q.3, m.0), s.2.2, s.2.3)), subst P s.2.3 m.1)

abbrev Unlabelled : List ParamModel → Type 0
Unlabelled ps = unlabelled ps ≡ true

one_allow : (x : Group) (c r : List Token) → (func_group false).spells x c r
    → (func_group true).spells x c r × Unlabelled (params_in x)
unfolding func_group
one_allow x c r (inl s) =
    let m = group_maps (codes "param") (params false) (params true) (λ _. Unit {0}) Unlabelled
    (λ v d t p _. params_allow v d t p) s.1.0 c r s.1.1 tt in (
      inl (s.0, (s.1.0, m.0, s.1.2, s.1.3)),
      subst (λ (y : Group). Unlabelled (params_in y)) s.1.3
          m.1,
    )
one_allow x c r (inr s) = (inr s, subst (λ (y : Group). Unlabelled (params_in y)) s.1.3 refl)

one_forbid : (x : Group) (c r : List Token) → (func_group true).spells x c r
    → Unlabelled (params_in x) → (func_group false).spells x c r
unfolding func_group
one_forbid x c r (inl s) u =
    let m = group_maps (codes "param") (params true) (params false) Unlabelled (λ _. Unit {0})
    (λ v d t p q. (params_forbid v d t p q, tt)) s.1.0 c r s.1.1
    (subst (λ (y : Group). Unlabelled (params_in y)) (sym s.1.3) u) in
    inl (s.0, (s.1.0, m.0, s.1.2, s.1.3))
one_forbid x c r (inr s) u = inr s

-- ---- all the groups

unlabelled-append : (ps qs : List ParamModel)
    → unlabelled (ps ++ qs) ≡ (unlabelled ps && unlabelled qs)
unlabelled-append [] qs = refl
unlabelled-append (p ∷ ps) qs =
    by_test (labelled p.label) (λ k. rw k refl) (λ k. rw k (unlabelled-append ps qs))

pub groups_allow : (gs : List Group) (c r : List Token)
    → many_spells group_follows (func_group false) gs c r
    → many_spells group_follows (func_group true) gs c r × Unlabelled (flat_map params_in gs)
groups_allow [] c r s = (s, refl)
groups_allow (x ∷ gs) c r s =
    let m = one_allow x s.0 (s.1 ++ r) s.4 in
    let n = groups_allow gs s.1 r s.5 in (
      (s.0, s.1, s.2, s.3, m.0, n.0),
      unlabelled-append (params_in x) (flat_map params_in gs)
          ∙ both_true m.1 n.1,
    )

pub groups_forbid : (gs : List Group) (c r : List Token)
    → many_spells group_follows (func_group true) gs c r → Unlabelled (flat_map params_in gs)
    → many_spells group_follows (func_group false) gs c r
groups_forbid [] c r s u = s
groups_forbid (x ∷ gs) c r s u =
    let w = sym (unlabelled-append (params_in x) (flat_map params_in gs)) ∙ u in (
      s.0,
      s.1,
      s.2,
      s.3,
      one_forbid x s.0 (s.1 ++ r) s.4
          (first_so (unlabelled (params_in x)) (unlabelled (flat_map params_in gs)) w),
      groups_forbid
          gs s.1 r s.5 (second_so (unlabelled (params_in x)) (unlabelled (flat_map params_in gs))
          w),
    )

-- Laws: labels, and lists of parts with optional labels, are read again.
use Rattle.std.proofs.Common.{◌≡◌, ℕ, Bool, true, false, not, ◌&&◌, ◌||◌, List, [], ◌∷◌, ◌++◌, Option, Some, None, codes, flat_map, map, ◌⊎◌, ◌≤◌, refl, ap, subst, sym, ◌∙◌, append_assoc, append-nil, inl, inr, rules}
use Rattle.wat_types.specs.Prelude.{and_parts, name_annotation, as_id, label_of, no_label, begins_label, at_label}
use Rattle.wat_print.specs.Prelude.{Token, LParen, Id, identifier, all_of, many, made, seq, where_else, Production, more, at_id, at_more, Label, labelled, label, Form, any, pick, none_labelled, by_itself, in_groups, id_form, label_form, at_most_one, listed_form, each, Prints, Unparses, Must, is_name, is_given}
use Rattle.wat_tokens.specs.NameAnnotation.{at_name}
use Rattle.wat_print.specs.Label.{OfIds, name_form, label_parts, tree_form, one_side, listed_parts, may_share}
use Rattle.wat_print.specs.Laws.Annotation.{annotated}
use Rattle.wat_print.specs.Laws.Form.{one_prints, option_prints, seq_prints, made_prints, whole_prints, whole_where, told_prints, only_where_prints, many_seen, respelled, grouped_prints}
use Rattle.wat_print.specs.Laws.Parts.{and_also, each_both}
use Rattle.wat_print.specs.Laws.Strings.{text_prints}
use Rattle.wat_lexer.specs.Laws.Cases.{if_either}

-- ---- parts with optional labels

pub labelled_front : (i n : Option (List ℕ)) (x : List Token) → labelled (label_of i n) ≡ true
    → begins_label (label_form.spell (label_of i n) ++ x) ≡ true
labelled_front (Some i) n x h = refl
labelled_front None (Some n) x h = refl
labelled_front None None x h = absurd cc

unlabelled_is : (i n : Option (List ℕ)) → not (labelled (label_of i n)) ≡ true
    → label_of i n ≡ no_label
unlabelled_is None None h = refl
unlabelled_is (Some i) n h = absurd cc
unlabelled_is None (Some n) h = absurd cc

-- ---- labels that a text spells can be written

id_given : (t : Token) (n : List ℕ) → is_given t ≡ true → as_id t ≡ Some n → is_name n ≡ true
id_given (Id m) n a e =
    let k : m ≡ n = cc in subst (λ (x : List ℕ). is_name x ≡ true) k a
id_given LParen n a e = absurd cc
id_given _ n a e = absurd cc

pub id_prints : Prints id_form identifier
id_prints =
    one_prints as_id (refl, refl) (λ n. Id n) is_name
    OfIds
    (λ rest test f n y h k. f n y k) (λ n h. h) (λ n h. refl) id_given

pub name_prints : Prints name_form name_annotation
unfolding name_annotation
name_prints = grouped_prints (annotated text_prints refl (codes "name") refl refl refl)

pub label_prints : Prints label_form label
unfolding label
label_prints =
    whole_prints (made_prints (seq_prints (option_prints at_id id_prints (search rules))
    (option_prints at_name name_prints (λ y. refl)) (λ y. refl)) (λ v. label_of v.0 v.1))
    label_parts (λ l h. refl) (λ l h. h) (λ v h. h)

or_right : (a b : Bool) → b ≡ true → a || b ≡ true
or_right true b h = refl
or_right false b h = h

-- parts correspond to pairs of a label and a value
module _ {T P : Type 0} {value : Form T} {g : Production T} (p : Prints value g)
    (sure : (v : T) → value.printable v ≡ true → value.ready v ≡ true) (consumes : 1 ≤ g.least)
    (more_front : Must value.empty (value.Fronts any more))
    (next_front : Must value.empty (value.Fronts any value.follows))
    (label_front : value.Fronts any label_form.follows)
    (told_front : value.Fronts any (λ t. not (begins_label t)))
    (part : Label → T → P) (label_in : P → Label) (value_in : P → T)
    (whole : (x : P) → part (label_in x) (value_in x) ≡ x)
    (label_back : (l : Label) (v : T) → label_in (part l v) ≡ l)
    (value_back : (l : Label) (v : T) → value_in (part l v) ≡ v)
  where
    abbrev parts : Production (List P)
    parts =
        where_else at_label (made (λ v. part v.0 v.1 ∷ []) (seq label g))
        (many at_more (made (part no_label) g) consumes)

    abbrev seen : Label × T ⊎ List T → List P
    seen v = pick (λ (v : Label × T). part v.0 v.1 ∷ []) (map (part no_label)) v

    label_told : (v : Label × T) (r : List Token)
        → labelled v.0 && (label_form.ready v.0 && value.ready v.1) ≡ true → any r ≡ true
        → begins_label ((label_form.spell v.0 ++ value.spell v.1) ++ r) ≡ true
    label_told v r h e =
        let a = and_parts (labelled v.0) (label_form.ready v.0 && value.ready v.1) h in
        subst (λ (l : List Token). begins_label l ≡ true)
        (sym (append_assoc (label_form.spell v.0) (value.spell v.1) r))
        (labelled_front v.0.id v.0.name (value.spell v.1 ++ r) a.0)

    tree_prints : Unparses (tree_form value label_in value_in) seen parts
    tree_prints =
        told_prints any at_label (only_where_prints (made_prints (seq_prints label_prints p
        label_front) (λ v. part v.0 v.1 ∷ [])) (λ v. labelled v.0))
        (many_seen at_more (made_prints p (part no_label)) consumes more_front next_front) label_told
        told_front

    abbrev printable_part : P → Bool
    printable_part x = label_form.printable (label_in x) && value.printable (value_in x)

    abbrev spell_part : P → List Token
    spell_part x = label_form.spell (label_in x) ++ value.spell (value_in x)

    -- a part without a label is written as its value
    plain_part : (x : P) → not (labelled (label_in x)) ≡ true
        → (part no_label (value_in x) ≡ x) × (spell_part x ≡ value.spell (value_in x))
    plain_part x h =
        let e = unlabelled_is (label_in x).id (label_in x).name h in (
          ap (λ (l : Label). part l (value_in x)) (sym e) ∙ whole x,
          ap (λ (l : Label). label_form.spell l ++ value.spell (value_in x)) e,
        )

    -- the form of one group writes the parts
    abbrev WritesParts : Label × T ⊎ List T → List P → Type 0
    WritesParts t xs =
        (seen t ≡ xs) × ((tree_form value label_in value_in).ready t ≡ true)
        × ((tree_form value label_in value_in).spell t ≡ flat_map spell_part xs)

    one_written : (b : Bool) (x : P) → labelled (label_in x) ≡ b → printable_part x ≡ true
        → WritesParts (one_side value label_in value_in b x) (x ∷ [])
    one_written true x e h =
        let k = and_parts (label_form.printable (label_in x)) (value.printable (value_in x)) h in (
          ap (λ (y : P). y ∷ []) (whole x),
          rw (e, k.0, sure (value_in x) k.1) refl,
          sym (append-nil (spell_part x)),
        )
    one_written false x e h =
        let k = and_parts (label_form.printable (label_in x)) (value.printable (value_in x)) h in
        let p = plain_part x (rw e refl) in (
          ap (λ (y : P). y ∷ []) p.0,
          rw (sure (value_in x) k.1) refl,
          ap (λ (l : List Token). l ++ []) (sym p.1),
        )

    all_written : (xs : List P) → none_labelled label_in xs ≡ true
        → each printable_part xs ≡ true → WritesParts (inr (map value_in xs)) xs
    all_written [] h f = (refl, refl, refl)
    all_written (x ∷ xs) h f =
        let a = and_parts (not (labelled (label_in x))) (none_labelled label_in xs) h in
        let b = and_parts (printable_part x) (each printable_part xs) f in
        let k = and_parts (label_form.printable (label_in x)) (value.printable (value_in x)) b.0 in
        let p = plain_part x a.0 in
        let s = all_written xs a.1 b.1 in (
          ap (λ (y : P). y ∷ map (part no_label) (map value_in xs)) p.0
              ∙ ap (λ (ys : List P). x ∷ ys) s.0,
          rw (sure (value_in x) k.1) s.1,
          ap (λ (l : List Token). value.spell (value_in x) ++ l) s.2
              ∙ ap (λ (l : List Token). l ++ flat_map spell_part xs) (sym p.1),
        )

    listed_written : (xs : List P) → may_share value label_in value_in xs ≡ true
        → WritesParts (listed_parts value label_in value_in xs) xs
    listed_written [] h = (refl, refl, refl)
    listed_written (x ∷ []) h =
        one_written (labelled (label_in x)) x refl (and_parts (printable_part x) true h).0
    listed_written (x ∷ y ∷ xs) h =
        let a = and_parts (none_labelled label_in (x ∷ y ∷ xs)) _ h in
        all_written (x ∷ y ∷ xs) a.0 a.1

    none_plain : (vs : List T) → none_labelled label_in (map (part no_label) vs) ≡ true
    none_plain [] = refl
    none_plain (v ∷ vs) = rw (label_back no_label v) (none_plain vs)

    plain_printable : (vs : List T) → each value.printable vs ≡ true
        → each printable_part (map (part no_label) vs) ≡ true
    plain_printable [] h = refl
    plain_printable (v ∷ vs) h =
        let a = and_parts (value.printable v) (each value.printable vs) h in
        rw (label_back no_label v, value_back no_label v, a.0) (plain_printable vs a.1)

    listed_covers : (t : Label × T ⊎ List T)
        → (tree_form value label_in value_in).printable t ≡ true
        → may_share value label_in value_in (seen t) ≡ true
    listed_covers (inl v) h =
        rw (label_back v.0 v.1, value_back v.0 v.1) (and_also _ h)
    listed_covers (inr vs) h =
        rw (
          or_right (at_most_one value label_in value_in (map (part no_label) vs))
              (none_labelled label_in (map (part no_label) vs)) (none_plain vs),
          plain_printable vs h,
        ) refl

    listed_prints : Prints (listed_form value label_in value_in) parts
    listed_prints =
        respelled (whole_where tree_prints (listed_parts value label_in value_in)
        (may_share value label_in value_in) (λ xs h. (listed_written xs h).0)
        (λ xs h. (listed_written xs h).1) listed_covers) (flat_map spell_part)
        (λ xs h. (listed_written xs h).2)

    -- ---- groups of parts

    all_alone : (xs : List P) → each printable_part xs ≡ true
        → each (may_share value label_in value_in) (map by_itself xs) ≡ true
    all_alone [] f = refl
    all_alone (x ∷ xs) f =
        let a = and_parts (printable_part x) (each printable_part xs) f in
        rw (a.0) (all_alone xs a.1)

    groups_ready : (xs : List P) → each printable_part xs ≡ true
        → each (may_share value label_in value_in) (in_groups label_in xs) ≡ true
    groups_ready [] f = refl
    groups_ready (x ∷ xs) f =
        if_either (λ (gs : List (List P)). each (may_share value label_in value_in) gs ≡ true)
        (none_labelled label_in (x ∷ xs)) ((x ∷ xs) ∷ []) (map by_itself (x ∷ xs))
        (λ u. (rw (
          or_right (at_most_one value label_in value_in (x ∷ xs))
              (none_labelled label_in (x ∷ xs)) u,
          f,
        ) refl)) (λ u. (all_alone (x ∷ xs) f))

    groups_cover : (gs : List (List P))
        → each (may_share value label_in value_in) gs ≡ true
        → each printable_part (all_of gs) ≡ true
    groups_cover [] h = refl
    groups_cover (g ∷ gs) h =
        let a = and_parts (may_share value label_in value_in g) _ h in
        each_both printable_part g (all_of gs)
        (and_parts (at_most_one value label_in value_in g || none_labelled label_in g) _ a.0).1
        (groups_cover gs a.1)

    -- parts in one group are read again; groups of printable parts can be written
    pub listed : Prints (listed_form value label_in value_in) parts
        × ((xs : List P) → each printable_part xs ≡ true
        → each (may_share value label_in value_in) (in_groups label_in xs) ≡ true)
        × ((gs : List (List P)) → each (may_share value label_in value_in) gs ≡ true
        → each printable_part (all_of gs) ≡ true)
    listed = (listed_prints, groups_ready, groups_cover)

-- groups of one part each contain all parts
alone_all : {P : Type 0} (ps : List P) → all_of (map by_itself ps) ≡ ps
alone_all [] = refl
alone_all {P = P} (p ∷ ps) = ap (λ (l : List P). p ∷ l) (alone_all ps)

pub in_groups_all : {P : Type 0} (label_in : P → Label) (ps : List P)
    → all_of (in_groups label_in ps) ≡ ps
in_groups_all label_in [] = refl
in_groups_all {P = P} label_in (p ∷ ps) =
    if_either (λ (gs : List (List P)). all_of gs ≡ p ∷ ps) (none_labelled label_in (p ∷ ps))
    ((p ∷ ps) ∷ []) (map by_itself (p ∷ ps)) (λ u. (append-nil (p ∷ ps)))
    (λ u. (alone_all (p ∷ ps)))

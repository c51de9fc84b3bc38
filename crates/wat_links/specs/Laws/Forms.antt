-- Laws: the next tokens distinguish the three forms of imports.
use Rattle.std.proofs.Common.{◌≡◌, ℕ, true, false, List, [], ◌∷◌, ◌++◌, codes, Some, refl, subst, append_assoc, inl, inr}
use Rattle.wat_types.specs.Prelude.{bytes_eq, Token, LParen, RParen, Keyword, String, word_only, ends, begins_lparen, text, text_in, by_test}
use Rattle.wat_links.specs.Item.{ItemSigModel}
use Rattle.wat_links.specs.Import.{ImportItemsModel, single, group1, group2, item_follows, typed_list, named_list, shared_sig, single_item, typed_items, named_items, typed, import_choice}
use Rattle.wat_links.specs.ImportItem.{typed_item, named_item}
use Rattle.wat_links.specs.ItemForms.{ItemsSpells}

-- ---- the next tokens

ends_there : (t : List Token) → item_follows t ≡ false → typed t ≡ true → ends t ≡ true
ends_there [] f e = refl
ends_there (RParen ∷ t) f e = refl
ends_there (LParen ∷ Keyword k ∷ t) f e = absurd (let h = rw f at e in cc)
ends_there (_ ∷ t) f e = absurd cc

untyped : (t : List Token) → begins_lparen t ≡ true → item_follows t ≡ false → typed t ≡ false
untyped (LParen ∷ Keyword k ∷ t) b f = rw f refl
untyped (LParen ∷ t) b f = refl
untyped [] b f = absurd cc
untyped (_ ∷ t) b f = absurd cc

string_is : (x : Token) (n : List ℕ) → text_in x ≡ Some n → (s : List ℕ) × (x ≡ String s)
string_is (String s) n e = (s, refl)
string_is _ n e = absurd cc

keyword_is : (w : List ℕ) (x : Token) (v : Unit {0}) → word_only w x ≡ Some v
    → (k : List ℕ) × (x ≡ Keyword k) × (bytes_eq k w ≡ true)
keyword_is w (Keyword k) v e =
    (k, refl, by_test (bytes_eq k w) (λ h. h) (λ h. absurd (let q = rw h at e in cc)))
keyword_is w _ v e = absurd cc

text_first : (n : List ℕ) (d t : List Token) → text.spells n d t
    → (typed (d ++ t) ≡ false) × (begins_lparen (d ++ t) ≡ false)
text_first n d t p =
    let s = string_is p.0 n p.2 in
    (rw (p.1, s.1) refl, rw (p.1, s.1) refl)

typed_first : (x : List ℕ × ItemSigModel) (d t : List Token) → typed_item.spells x d t
    → typed (d ++ t) ≡ true
unfolding typed_item
typed_first x d t p =
    let q = p.2.1 in
    let k = keyword_is (codes "item") q.3.0 tt q.3.2 in
    let s = string_is q.4.3.0 p.2.0.1.0 q.4.3.2 in
    rw (p.1, q.2, q.3.1, k.1, q.4.2, q.4.3.1, s.1, q.4.4.1, k.2) refl

named_first : (n : List ℕ) (d t : List Token) → named_item.spells n d t
    → (typed (d ++ t) ≡ false) × (begins_lparen (d ++ t) ≡ true)
unfolding named_item
named_first n d t p =
    let q = p.2.1 in
    let k = keyword_is (codes "item") q.3.0 tt q.3.2 in
    let s = string_is q.4.0 p.2.0.1 q.4.2 in
    (rw (p.1, q.2, q.3.1, k.1, q.4.1, s.1, k.2) refl, rw (p.1) refl)

named_front : (xs : List (List ℕ)) (d t : List Token) → named_list.spells xs d t
    → begins_lparen t ≡ true → (typed (d ++ t) ≡ false) × (begins_lparen (d ++ t) ≡ true)
unfolding named_list
named_front [] d t p b = (rw (p.0) (untyped t b p.1), rw (p.0) b)
named_front (x ∷ xs) d t p b =
    let q = named_first x p.0 (p.1 ++ t) p.4 in
    (rw (p.2, append_assoc p.0 p.1 t) (q.0), rw (p.2, append_assoc p.0 p.1 t) (q.1))

shared_front : (s : ItemSigModel) (c r : List Token) → shared_sig.spells s c r
    → begins_lparen (c ++ r) ≡ true
unfolding shared_sig
shared_front s c r p = rw (p.1) refl

-- ---- both ways

typed_to : (xs : List (List ℕ × ItemSigModel)) (c r : List Token) → typed (c ++ r) ≡ true
    → typed_list.spells xs c r → ItemsSpells (group1 xs) c r
unfolding typed_list
typed_to [] c r k p = (p.0, p.1, ends_there r p.1 (rw (p.0) at k))
typed_to (x ∷ xs) c r k p = p

pub items_to : (v : ImportItemsModel) (c r : List Token) → import_choice.spells v c r
    → ItemsSpells v c r
unfolding import_choice single_item typed_items named_items
items_to v c r (inl p) =
    subst (λ (u : ImportItemsModel). ItemsSpells u c r) p.1.3 (typed_to p.1.0 c r p.0 p.1.1)
items_to v c r (inr (k, inl p)) = subst (λ (u : ImportItemsModel). ItemsSpells u c r) p.1.3 p.1.1
items_to v c r (inr (k, inr p)) = subst (λ (u : ImportItemsModel). ItemsSpells u c r) p.1.3 p.1.1

pub items_from : (v : ImportItemsModel) (c r : List Token) → ItemsSpells v c r
    → import_choice.spells v c r
unfolding import_choice single_item typed_items named_items typed_list
items_from (single n s) c r p =
    let f = text_first n p.0 (p.1 ++ r) p.3 in
    let k : typed (c ++ r) ≡ false = rw (p.2, append_assoc p.0 p.1 r) (f.0) in
    let b : begins_lparen (c ++ r) ≡ false = rw (p.2, append_assoc p.0 p.1 r) (f.1) in
    inr (k, inr (b, ((n, s), p, refl, refl)))
items_from (group1 []) c r p =
    let k : typed (c ++ r) ≡ true = rw (p.0, p.2) refl in
    inl (k, ([], (p.0, p.1), refl, refl))
items_from (group1 (x ∷ xs)) c r p =
    let k : typed (c ++ r) ≡ true =
    rw (p.2, append_assoc p.0 p.1 r) (typed_first x p.0 (p.1 ++ r) p.4) in
    inl (k, (x ∷ xs, p, refl, refl))
items_from (group2 s xs) c r p =
    let f = named_front xs p.0 (p.1 ++ r) p.3 (shared_front s p.1 r p.4) in
    let k : typed (c ++ r) ≡ false = rw (p.2, append_assoc p.0 p.1 r) (f.0) in
    let b : begins_lparen (c ++ r) ≡ true = rw (p.2, append_assoc p.0 p.1 r) (f.1) in
    inr (k, inl (b, ((xs, s), p, refl, refl)))

-- Laws: the tokens that a form writes are read again, part by part.
use Rattle.std.proofs.Common.{ap, subst, sym, ◌∙◌, append_assoc, inl, inr, ◌≡◌, ◌≤◌, ℕ, Bool, true, false, not, ◌&&◌, List, [], ◌∷◌, ◌++◌, Option, Some, None, flat_map, map, ◌⊎◌, ◌||◌, option_map, refl}
use Rattle.wat_types.specs.Prelude.{and_parts, restated, not-true}
use Rattle.wat_print.specs.Prelude.{bytes_eq, Token, LParen, RParen, Keyword, paren, group, many, many_spells, NoParens, one, seq, where_else, made, made_where, opt, word, flag, after_word, Production, in_parens, run, begins_word, Test, any, Form, told_form, token_form, word_form, flag_form, seq_form, by, by_where, pick, else_form, option_form, many_form, paren_form, after_form, group_form, only_where_form, behind_form, unwritten_form, filled_form, spell_option, if_some, each, spell_flag, Passes, Nests, Unparses, Prints, Must, Inside, WellFormed, nothing, is_given, is_keyword, is_printable}
use Rattle.wat_tokens.specs.Groups.{turn}
use Rattle.wat_print.specs.Form.{OfWord, seq_follows, SeqFronts, else_follows, ParenFronts, turn_form, some_and, led_form}
use Rattle.wat_print.specs.Prints.{Closes, UnparsesAs}
use Rattle.wat_print.specs.Laws.Only.{given_parts, OnlyPrintable}
use Rattle.wat_print.specs.Laws.Parts.{flag_here, word_here, well_formed_one, well_formed_flag, well_formed_both, well_formed_paren, Spells}
use Rattle.wat_tokens.specs.Test as asked
use Rattle.wat_print.specs.WellFormed as well_formed

-- ---- how tokens nest

closes_behind : (x z : List Token) → WellFormed x → Closes z → Closes (x ++ z)
closes_behind x z n c = (
  x ++ c.0,
  c.1,
  ap (λ (l : List Token). x ++ l) c.2 ∙ sym (append_assoc x c.0 (RParen ∷ c.1)),
  well_formed_both x c.0 n c.3,
  c.4,
)

nests_inside : (b : Bool) (x z : List Token) → Nests b x → Closes z → Closes (x ++ z)
nests_inside true x z n c = closes_behind x z n c
nests_inside false x z n c = n z c

nests_seq : (a b : Bool) (x y : List Token) → Nests a x → Nests b y → Nests (a && b) (x ++ y)
nests_seq true true x y m n = well_formed_both x y m n
nests_seq true false x y m n = λ z c. subst Closes (sym (append_assoc x y z))
    (closes_behind x (y ++ z) m (n z c))
nests_seq false b x y m n = λ z c. subst Closes (sym (append_assoc x y z))
    (m (y ++ z) (nests_inside b y z n c))

nests_left : (a b : Bool) (x : List Token) → Nests a x → Nests (a && b) x
nests_left true true x n = n
nests_left true false x n = λ z c. closes_behind x z n c
nests_left false b x n = n

nests_right : (a b : Bool) (x : List Token) → Nests b x → Nests (a && b) x
nests_right true b x n = n
nests_right false b x n = λ z c. nests_inside b x z n c

nests_same : (b : Bool) (x : List Token) → Nests (b && b) x → Nests b x
nests_same true x n = n
nests_same false x n = n

nests_nothing : (b : Bool) → Nests b []
nests_nothing true = nothing
nests_nothing false = λ z c. c

nests_paren : (b : Bool) (x : List Token) → Nests b x → WellFormed (in_parens x)
nests_paren true x n = well_formed_paren x n
nests_paren false x n =
    let c = n (RParen ∷ []) ([], [], refl, nothing, nothing) in
    subst WellFormed (ap (λ (l : List Token). LParen ∷ l) (sym c.2))
    (well_formed.group c.0 c.1 c.3 c.4)

closes_turn : (x : List Token) → Closes x → Closes (RParen ∷ LParen ∷ x)
closes_turn x c = (
  [],
  LParen ∷ x,
  refl,
  nothing,
  subst WellFormed (ap (λ (l : List Token). LParen ∷ l) (sym c.2))
      (well_formed.group c.0 c.1 c.3 c.4),
)

-- ---- tests of the first tokens

pub passes_of : (e : Bool) (test : Test) (r : List Token) → test r ≡ true → Passes e test r
passes_of true test r h = h
passes_of false test r h = tt

-- the facts of `Must`: F holds, and the part writes a token
must_pass : {P : Type 0} (e : Bool) (test : Test) (r : List Token) (F : Type 0) → Must e F
    → (F → Passes e test r → P) → P
must_pass true test r F m f = absurd m
must_pass false test r F m f = f m tt

module _ {N : Bool → List Token → Type 0} {A B : Type 0} {form : Form A} {view : A → B}
    {g : Production B} (p : UnparsesAs N form view g)
  where
    begun : (test : Test) → Must form.empty (form.Fronts any test) → (a : A) (r : List Token)
        → form.ready a ≡ true → test (form.spell a ++ r) ≡ true
    begun test m a r h =
        must_pass form.empty test r (form.Fronts any test) m
        (λ f e. p.front any test f a r h refl e)

-- ---- one token

module _ {A : Type 0} (value_of : Token → Option A) (flat : NoParens value_of) (token : A → Token)
    (printable : A → Bool) (Fronts : Test → Test → Type 0)
  where
    pub one_prints : ((rest test : Test) → Fronts rest test → (v : A) (y : List Token)
        → printable v ≡ true → rest y ≡ true → test (token v ∷ y) ≡ true)
        → ((v : A) → printable v ≡ true → is_printable (token v) ≡ true)
        → ((v : A) → printable v ≡ true → value_of (token v) ≡ Some v)
        → ((t : Token) (v : A) → is_given t ≡ true → value_of t ≡ Some v → printable v ≡ true)
        → Prints (token_form token printable Fronts) (one value_of flat)
    one_prints front fits reads only = record {
      nests = λ v h. well_formed_one (token v) (fits v h);
      front = λ rest test f v r h k e. front rest test f v r h k;
      here = λ v r h e. (token v, refl, reads v h);
      only = λ v c r a s. (let k = subst (λ (l : List Token). each is_given l ≡ true) s.1 a in
          (v, refl, only s.0 v (and_parts (is_given s.0) true k).0 s.2));
    }

pub word_prints : (w : List ℕ) → is_keyword w ≡ true → bytes_eq w w ≡ true
    → Prints (word_form w) (word w)
word_prints w k e = record {
  nests = λ v h. well_formed_one (Keyword w) k;
  front = λ rest test f v r h k p. f r k;
  here = λ v r h p. word_here w e r;
  only = λ v c r a s. (tt, refl, refl);
}

flag_front : (w : List ℕ) (rest test : Test) → OfWord w rest test → (b : Bool) (r : List Token)
    → rest r ≡ true → test r ≡ true → test (spell_flag w b ++ r) ≡ true
flag_front w rest test f true r k h = f r k
flag_front w rest test f false r k h = h

pub flag_prints : (w : List ℕ) → is_keyword w ≡ true → bytes_eq w w ≡ true
    → Prints (flag_form w) (flag w)
flag_prints w k e = record {
  nests = λ b h. well_formed_flag w b k;
  front = λ rest test f b r h k p. flag_front w rest test f b r k p;
  here = λ b r h p. flag_here w b r e (not-true (begins_word w r) p);
  only = λ b c r a s. (b, refl, refl);
}

-- ---- one part, and then another

follows_parts : (e : Bool) (f g : Test) (r : List Token) → seq_follows e f g r ≡ true
    → Passes e f r × (g r ≡ true)
follows_parts true f g r h = and_parts (f r) (g r) h
follows_parts false f g r h = (tt, h)

seq_front : (d e : Bool) (F G : Test → Test → Type 0) (behind rest test : Test) (x y r : List Token)
    → (F behind test → Passes d test (y ++ r) → test (x ++ (y ++ r)) ≡ true)
    → (G rest test → Passes e test r → test (y ++ r) ≡ true)
    → SeqFronts d F G behind rest test → Passes (d && e) test r → test (x ++ (y ++ r)) ≡ true
seq_front true e F G behind rest test x y r f g h p = f h.0 (g h.1 p)
seq_front false e F G behind rest test x y r f g h p = f h tt

module _ {A B C D : Type 0} {form : Form A} {other : Form B} {view : A → C} {also : B → D}
    {g : Production C} {h : Production D} (behind : Test) (p : Unparses form view g)
    (q : Unparses other also h)
    (passes : (v : B) (r : List Token) → other.ready v ≡ true → behind (other.spell v ++ r) ≡ true)
  where
    front_of : (rest test : Test)
        → SeqFronts form.empty form.Fronts other.Fronts behind rest test → (v : A × B)
        (r : List Token)
        → form.ready v.0 && other.ready v.1 ≡ true → rest r ≡ true
        → Passes (form.empty && other.empty) test r
        → test ((form.spell v.0 ++ other.spell v.1) ++ r) ≡ true
    front_of rest test f v r k i e =
        let a = and_parts (form.ready v.0) (other.ready v.1) k in
        subst (λ (l : List Token). test l ≡ true)
        (sym (append_assoc (form.spell v.0) (other.spell v.1) r))
        (seq_front form.empty other.empty form.Fronts other.Fronts behind rest test
        (form.spell v.0) (other.spell v.1) r
        (λ f e. p.front behind test f v.0 (other.spell v.1 ++ r) a.0 (passes v.1 r a.1) e)
        (λ f e. q.front rest test f v.1 r a.1 i e) f e)

    -- the first part is read before the tokens of the second part
    both_here : other.Fronts any form.follows → (v : A × B) (r : List Token)
        → form.ready v.0 && other.ready v.1 ≡ true
        → seq_follows other.empty form.follows other.follows r ≡ true
        → (seq g h).spells (view v.0, also v.1) (form.spell v.0 ++ other.spell v.1) r
    both_here f v r k e =
        let a = and_parts (form.ready v.0) (other.ready v.1) k in
        let b = follows_parts other.empty form.follows other.follows r e in (
          form.spell v.0,
          other.spell v.1,
          refl,
          p.here v.0 (other.spell v.1 ++ r) a.0 (q.front any form.follows f v.1 r a.1 refl b.0),
          q.here v.1 r a.1 b.1,
        )

    both_only : (w : C × D) (c r : List Token) → each is_given c ≡ true → (seq g h).spells w c r
        → (v : A × B) × ((view v.0, also v.1) ≡ w)
        × (form.printable v.0 && other.printable v.1 ≡ true)
    both_only w c r a s =
        let k = given_parts c s.0 s.1 s.2 a in
        let x = p.only w.0 s.0 (s.1 ++ r) k.0 s.3 in
        let y = q.only w.1 s.1 r k.1 s.4 in
        ((x.0, y.0), rw (x.1, y.1) refl, rw (x.2, y.2) refl)

    both_prints : other.Fronts any form.follows
        → Unparses (behind_form behind form other) (λ v. (view v.0, also v.1)) (seq g h)
    both_prints f = record {
      nests = λ v k. (let a = and_parts (form.ready v.0) (other.ready v.1) k in
          nests_seq form.balanced other.balanced (form.spell v.0) (other.spell v.1)
          (p.nests v.0 a.0) (q.nests v.1 a.1));
      front = front_of;
      here = both_here f;
      only = both_only;
    }

module _ {A B C D : Type 0} {form : Form A} {other : Form B} {view : A → C} {also : B → D}
    {g : Production C} {h : Production D}
  where
    pub seq_prints : Unparses form view g → Unparses other also h → other.Fronts any form.follows
        → Unparses (seq_form form other) (λ v. (view v.0, also v.1)) (seq g h)
    seq_prints p q f = both_prints any p q (λ v r k. refl) f

    pub behind_prints : (behind : Test) → Unparses form view g → (q : Unparses other also h)
        → Must other.empty (other.Fronts any behind) → other.Fronts any form.follows
        → Unparses (behind_form behind form other) (λ v. (view v.0, also v.1)) (seq g h)
    behind_prints behind p q m f = both_prints behind p q (λ v r k. begun q behind m v r k) f

-- ---- values made of parts

module _ {N : Bool → List Token → Type 0} {A B : Type 0} {form : Form A} {view : A → B}
    {g : Production B} (p : UnparsesAs N form view g)
  where
    pub made_prints : {C : Type 0} (f : B → C)
        → UnparsesAs N form (λ a. f (view a)) (made f g)
    made_prints f = record {
      nests = p.nests;
      front = p.front;
      here = λ a r h e. (view a, p.here a r h e, refl, refl);
      only = λ b c r a s. (let x = p.only s.0 c r a s.1 in (x.0, ap f x.1 ∙ s.3, x.2));
    }

module _ {N : Bool → List Token → Type 0} {A B : Type 0} {form : Form A} {view : A → B}
    {g : Production B} (p : UnparsesAs N form view g) (parts : B → A) (ok : B → Bool)
    (is : (b : B) → ok b ≡ true → view (parts b) ≡ b)
    (is_ready : (b : B) → ok b ≡ true → form.ready (parts b) ≡ true)
    (covers : (a : A) → form.printable a ≡ true → ok (view a) ≡ true)
  where
    pub whole_where : UnparsesAs N (by_where ok parts form) (λ v. v) g
    whole_where = record {
      nests = λ b h. p.nests (parts b) (is_ready b h);
      front = λ rest test f b r h i e. p.front rest test f (parts b) r (is_ready b h) i e;
      here = λ b r h e. (subst (λ (w : B). g.spells w (form.spell (parts b)) r) (is b h)
          (p.here (parts b) r (is_ready b h) e));
      only = λ b c r a s. (let x = p.only b c r a s in
          (b, refl, subst (λ (w : B). ok w ≡ true) x.1 (covers x.0 x.2)));
    }

module _ {N : Bool → List Token → Type 0} {A B : Type 0} {form : Form A} {view : A → B}
    {g : Production B} (p : UnparsesAs N form view g) (parts : B → A)
  where
    pub whole_prints : ((b : B) → form.printable (parts b) ≡ true → view (parts b) ≡ b)
        → ((b : B) → form.printable (parts b) ≡ true → form.ready (parts b) ≡ true)
        → ((a : A) → form.printable a ≡ true → form.printable (parts (view a)) ≡ true)
        → UnparsesAs N (by parts form) (λ v. v) g
    whole_prints is is_ready covers =
        whole_where p parts (λ b. form.printable (parts b)) is is_ready covers

module _ {A B : Type 0} {form : Form A} {view : A → B} {g : Production B}
    (p : Unparses form view g) (ok : A → Bool)
  where
    pub only_where_prints : Unparses (only_where_form ok form) view g
    only_where_prints = record {
      nests = λ a h. p.nests a (and_parts (ok a) (form.ready a) h).1;
      front = λ rest test f a r h i e.
          p.front rest test f a r (and_parts (ok a) (form.ready a) h).1 i e;
      here = λ a r h e. p.here a r (and_parts (ok a) (form.ready a) h).1 e;
      only = p.only;
    }

-- ---- one of two

else_parts : (e : Bool) (test f : Test) (r : List Token)
    → else_follows e test f r ≡ true → Passes e (λ t. not (test t)) r × (f r ≡ true)
else_parts true test f r h = and_parts (not (test r)) (f r) h
else_parts false test f r h = (tt, h)

module _ {N : Bool → List Token → Type 0} {A B : Type 0} {form : Form A} {view : A → B}
    {g : Production B} (p : UnparsesAs N form view g)
  where
    pub unwritten_prints : {M : Bool → List Token → Type 0}
        → UnparsesAs M (unwritten_form form) view g
    unwritten_prints = record {
      nests = λ a h. absurd cc;
      front = λ rest test f a r h i e. absurd cc;
      here = λ a r h e. absurd cc;
      only = p.only;
    }

module _ {A B : Type 0} {form : Form A} {view : A → B} {g : Production B}
    (p : Unparses form view g) (spell : A → List Token)
    (same : (a : A) → form.ready a ≡ true → form.spell a ≡ spell a)
  where
    -- the same tokens from another function
    pub respelled : Unparses (record form { spell = spell }) view g
    respelled = record {
      nests = λ a h. subst (λ (c : List Token). Nests form.balanced c) (same a h) (p.nests a h);
      front = λ rest test f a r h i e. (subst (λ (c : List Token). test (c ++ r) ≡ true) (same a h)
          (p.front rest test f a r h i e));
      here = λ a r h e. (subst (λ (c : List Token). g.spells (view a) c r) (same a h)
          (p.here a r h e));
      only = p.only;
    }

module _ {A B : Type 0} {form : Form A} {view : A → B} {g : Production B}
    (p : Unparses form view g)
  where
    -- a value made of parts that pass a condition
    pub where_prints : {C : Type 0} (ok : B → Bool) (f : B → C)
        → ((a : A) → form.ready a ≡ true → ok (view a) ≡ true)
        → Unparses form (λ a. f (view a)) (made_where ok f g)
    where_prints ok f meets = record {
      nests = p.nests;
      front = p.front;
      here = λ a r h e. (view a, p.here a r h e, meets a h, refl);
      only = λ b c r a s. (let x = p.only s.0 c r a s.1 in (x.0, ap f x.1 ∙ s.3, x.2));
    }

    pub restated_prints : (Spells : B → List Token → List Token → Type 0)
        (to : (v : B) (c r : List Token) → g.spells v c r → Spells v c r)
        (from : (v : B) (c r : List Token) → Spells v c r → g.spells v c r)
        → Unparses form view (restated g Spells to from)
    restated_prints Spells to from = record {
      nests = p.nests;
      front = p.front;
      here = λ a r h e. to (view a) (form.spell a) r (p.here a r h e);
      only = λ b c r a s. p.only b c r a (from b c r s);
    }

passes_left : (a b : Bool) (test : Test) (r : List Token) → Passes (a || b) test r → Passes a test r
passes_left true b test r e = e
passes_left false b test r e = tt

passes_right : (a b : Bool) (test : Test) (r : List Token) → Passes (a || b) test r
    → Passes b test r
passes_right true b test r e = passes_of b test r e
passes_right false b test r e = e

module _ {N : Bool → List Token → Type 0} {A B C : Type 0} {form : Form A} {other : Form B}
    {view : A → C} {also : B → C} {g h : Production C} (rest : Test) (test : asked.Test)
    (p : UnparsesAs N form view g) (q : UnparsesAs N other also h)
    (left : (x : List Token) → N form.balanced x → N (form.balanced && other.balanced) x)
    (right : (x : List Token) → N other.balanced x → N (form.balanced && other.balanced) x)
  where
    else_nests : (v : A ⊎ B) → pick form.ready other.ready v ≡ true
        → N (form.balanced && other.balanced) (pick form.spell other.spell v)
    else_nests (inl a) k = left (form.spell a) (p.nests a k)
    else_nests (inr b) k = right (other.spell b) (q.nests b k)

    else_front : (x t : Test) → form.Fronts x t × other.Fronts x t → (v : A ⊎ B) (r : List Token)
        → pick form.ready other.ready v ≡ true → x r ≡ true → Passes (form.empty || other.empty) t r
        → t (pick form.spell other.spell v ++ r) ≡ true
    else_front x t f (inl a) r k i e =
        p.front x t f.0 a r k i (passes_left form.empty other.empty t r e)
    else_front x t f (inr b) r k i e =
        q.front x t f.1 b r k i (passes_right form.empty other.empty t r e)

    else_here : ((a : A) (r : List Token) → form.ready a ≡ true → rest r ≡ true
        → run test (form.spell a ++ r) ≡ true)
        → other.Fronts rest (λ t. not (run test t))
        → (v : A ⊎ B) (r : List Token) → pick form.ready other.ready v ≡ true
        → rest r && (form.follows r && else_follows other.empty (λ t. run test t) other.follows r) ≡ true
        → (where_else test g h).spells (pick view also v) (pick form.spell other.spell v) r
    else_here m f (inl a) r k e =
        let i = and_parts (rest r) _ e in
        let x = and_parts (form.follows r) (else_follows other.empty (λ t. run test t) other.follows r) i.1 in
        inl (m a r k i.0, p.here a r k x.0)
    else_here m f (inr b) r k e =
        let i = and_parts (rest r) _ e in
        let x = and_parts (form.follows r) (else_follows other.empty (λ t. run test t) other.follows r) i.1 in
        let y = else_parts other.empty (λ t. run test t) other.follows r x.1 in
        inr (
          not-true (run test (other.spell b ++ r))
              (q.front rest (λ t. not (run test t)) f b r k i.0 y.0),
          q.here b r k y.1,
        )

    else_only : (w : C) (c r : List Token) → each is_given c ≡ true
        → (where_else test g h).spells w c r
        → (v : A ⊎ B) × (pick view also v ≡ w) × (pick form.printable other.printable v ≡ true)
    else_only w c r a (inl k) = let x = p.only w c r a k.1 in (inl x.0, x.1, x.2)
    else_only w c r a (inr k) = let x = q.only w c r a k.1 in (inr x.0, x.1, x.2)

    -- the test passes on the tokens of the first part, and fails on the tokens of the second part,
    -- before each rest that passes `rest`
    told : ((a : A) (r : List Token) → form.ready a ≡ true → rest r ≡ true
        → run test (form.spell a ++ r) ≡ true)
        → other.Fronts rest (λ t. not (run test t))
        → UnparsesAs N (told_form rest (λ t. run test t) form other) (pick view also) (where_else test g h)
    told m f = record {
      nests = else_nests;
      front = else_front;
      here = else_here m f;
      only = else_only;
    }

module _ {A B C : Type 0} {form : Form A} {other : Form B} {view : A → C} {also : B → C}
    {g h : Production C}
  where
    pub told_prints : (rest : Test) (test : asked.Test) → Unparses form view g → Unparses other also h
        → ((a : A) (r : List Token) → form.ready a ≡ true → rest r ≡ true
        → run test (form.spell a ++ r) ≡ true)
        → other.Fronts rest (λ t. not (run test t))
        → Unparses (told_form rest (λ t. run test t) form other) (pick view also) (where_else test g h)
    told_prints rest test p q m f = told rest test p q (nests_left form.balanced other.balanced)
        (nests_right form.balanced other.balanced) m f

    pub else_prints : (test : asked.Test) → Unparses form view g → Unparses other also h
        → Must form.empty (form.Fronts any (λ t. run test t)) → other.Fronts any (λ t. not (run test t))
        → Unparses (else_form (λ t. run test t) form other) (pick view also) (where_else test g h)
    else_prints test p q m f = told_prints any test p q (λ a r k e. begun p (λ t. run test t) m a r k) f

    pub else_inside : (test : asked.Test) → Inside form view g → Inside other also h
        → Must form.empty (form.Fronts any (λ t. run test t)) → other.Fronts any (λ t. not (run test t))
        → Inside (else_form (λ t. run test t) form other) (pick view also) (where_else test g h)
    else_inside test p q m f = told any test p q (λ x n. n) (λ x n. n)
        (λ a r k e. begun p (λ t. run test t) m a r k) f

-- ---- parts that may be absent, and lists of parts

-- the same facts, with another function that returns the same views
seen_as : {A B : Type 0} {form : Form A} {view also : A → B} {g : Production B}
    → ((a : A) → view a ≡ also a) → Unparses form view g → Unparses form also g
seen_as {form = form} {g = g} same p = record {
  nests = p.nests;
  front = p.front;
  here = λ a r h e. subst (λ v. g.spells v (form.spell a) r) (same a) (p.here a r h e);
  only = λ b c r a s. (let x = p.only b c r a s in (x.0, sym (same x.0) ∙ x.1, x.2));
}

module _ {A B : Type 0} {form : Form A} {view : A → B} {g : Production B} (begins : asked.Test)
    (p : Unparses form view g)
  where
    option_nests : (o : Option A) → if_some form.ready o ≡ true
        → Nests form.balanced (spell_option form.spell o)
    option_nests (Some v) h = p.nests v h
    option_nests None h = nests_nothing form.balanced

    option_front : (rest test : Test) → form.Fronts rest test → (o : Option A) (r : List Token)
        → if_some form.ready o ≡ true → rest r ≡ true → test r ≡ true
        → test (spell_option form.spell o ++ r) ≡ true
    option_front rest test f (Some v) r h i e =
        p.front rest test f v r h i (passes_of form.empty test r e)
    option_front rest test f None r h i e = e

    option_here : Must form.empty (form.Fronts any (λ t. run begins t))
        → (o : Option A) (r : List Token)
        → if_some form.ready o ≡ true → not (run begins r) && form.follows r ≡ true
        → (opt begins g).spells (option_map view o) (spell_option form.spell o) r
    option_here m (Some v) r h e =
        (begun p (λ t. run begins t) m v r h, p.here v r h (and_parts (not (run begins r)) (form.follows r) e).1)
    option_here m None r h e =
        (refl, not-true (run begins r) (and_parts (not (run begins r)) (form.follows r) e).0)

    option_only : (o : Option B) (c r : List Token) → each is_given c ≡ true
        → (opt begins g).spells o c r
        → (t : Option A) × (option_map view t ≡ o) × (if_some form.printable t ≡ true)
    option_only (Some w) c r a s =
        let x = p.only w c r a s.1 in (Some x.0, ap (λ (v : B). Some v) x.1, x.2)
    option_only None c r a s = (None, refl, refl)

    pub option_seen : Must form.empty (form.Fronts any (λ t. run begins t))
        → Unparses (option_form (λ t. run begins t) form) (option_map view) (opt begins g)
    option_seen m = record {
      nests = option_nests;
      front = option_front;
      here = option_here m;
      only = option_only;
    }

option_same : {A : Type 0} (o : Option A) → option_map (λ v. v) o ≡ o
option_same (Some v) = refl
option_same None = refl

module _ {A : Type 0} {form : Form A} {g : Production A} (begins : asked.Test) (p : Prints form g)
    (m : Must form.empty (form.Fronts any (λ t. run begins t)))
  where
    pub option_prints : Prints (option_form (λ t. run begins t) form) (opt begins g)
    option_prints = seen_as option_same (option_seen begins p m)

    filled_nests : (o : Option A) → some_and form.ready o ≡ true
        → Nests form.balanced (spell_option form.spell o)
    filled_nests (Some v) h = p.nests v h
    filled_nests None h = absurd cc

    filled_front : (rest test : Test) → form.Fronts rest test → (o : Option A) (r : List Token)
        → some_and form.ready o ≡ true → rest r ≡ true → Passes form.empty test r
        → test (spell_option form.spell o ++ r) ≡ true
    filled_front rest test f (Some v) r h i e = p.front rest test f v r h i e
    filled_front rest test f None r h i e = absurd cc

    filled_here : (o : Option A) (r : List Token) → some_and form.ready o ≡ true
        → form.follows r ≡ true → (opt begins g).spells o (spell_option form.spell o) r
    filled_here (Some v) r h e = (begun p (λ t. run begins t) m v r h, p.here v r h e)
    filled_here None r h e = absurd cc

    pub filled_prints : Prints (filled_form (λ t. run begins t) form) (opt begins g)
    filled_prints = record {
      nests = filled_nests;
      front = filled_front;
      here = filled_here;
      only = option_prints.only;
    }

module _ {A B : Type 0} {form : Form A} {view : A → B} {g : Production B} (begins : asked.Test)
    (p : Unparses form view g)
  where
    many_nests : (vs : List A) → each form.ready vs ≡ true
        → Nests form.balanced (flat_map form.spell vs)
    many_nests [] h = nests_nothing form.balanced
    many_nests (v ∷ vs) h =
        let a = and_parts (form.ready v) (each form.ready vs) h in
        nests_same form.balanced (form.spell v ++ flat_map form.spell vs)
        (nests_seq form.balanced form.balanced (form.spell v) (flat_map form.spell vs)
        (p.nests v a.0) (many_nests vs a.1))

    many_front : (test : Test) → form.Fronts any test → (vs : List A) (r : List Token)
        → each form.ready vs ≡ true → test r ≡ true
        → test (flat_map form.spell vs ++ r) ≡ true
    many_front test f [] r h e = e
    many_front test f (v ∷ vs) r h e =
        let a = and_parts (form.ready v) (each form.ready vs) h in
        let x = flat_map form.spell vs in
        subst (λ (l : List Token). test l ≡ true) (sym (append_assoc (form.spell v) x r))
        (p.front any test f v (x ++ r) a.0 refl
        (passes_of form.empty test (x ++ r) (many_front test f vs r a.1 e)))

    many_end : Must form.empty (form.Fronts any form.follows) → (vs : List A) (r : List Token)
        → each form.ready vs ≡ true → form.follows r ≡ true
        → form.follows (flat_map form.spell vs ++ r) ≡ true
    many_end n [] r h e = e
    many_end n (v ∷ vs) r h e =
        let a = and_parts (form.ready v) (each form.ready vs) h in
        let x = flat_map form.spell vs in
        subst (λ (l : List Token). form.follows l ≡ true) (sym (append_assoc (form.spell v) x r))
        (begun p form.follows n v (x ++ r) a.0)

    many_here : Must form.empty (form.Fronts any (λ t. run begins t))
        → Must form.empty (form.Fronts any form.follows) → (vs : List A) (r : List Token)
        → each form.ready vs ≡ true → form.follows r ≡ true → run begins r ≡ false
        → many_spells (λ t. run begins t) g (map view vs) (flat_map form.spell vs) r
    many_here m n [] r h e k = (refl, k)
    many_here m n (v ∷ vs) r h e k =
        let a = and_parts (form.ready v) (each form.ready vs) h in
        let x = flat_map form.spell vs in (
          form.spell v,
          x,
          refl,
          subst (λ (l : List Token). run begins l ≡ true) (sym (append_assoc (form.spell v) x r))
              (begun p (λ t. run begins t) m v (x ++ r) a.0),
          p.here v (x ++ r) a.0 (many_end n vs r a.1 e),
          many_here m n vs r a.1 e k,
        )

    many_only : (ws : List B) (c r : List Token) → each is_given c ≡ true
        → many_spells (λ t. run begins t) g ws c r
        → (vs : List A) × (map view vs ≡ ws) × (each form.printable vs ≡ true)
    many_only [] c r a s = ([], refl, refl)
    many_only (w ∷ ws) c r a s =
        let k = given_parts c s.0 s.1 s.2 a in
        let x = p.only w s.0 (s.1 ++ r) k.0 s.4 in
        let y = many_only ws s.1 r k.1 s.5 in
        (x.0 ∷ y.0, rw (x.1, y.1) refl, rw (x.2) (y.2))

    -- the test distinguishes a part from the tokens that may follow: more parts, or the rest
    pub many_seen : (consumes : 1 ≤ g.least) → Must form.empty (form.Fronts any (λ t. run begins t))
        → Must form.empty (form.Fronts any form.follows)
        → Unparses (many_form (λ t. run begins t) form) (map view) (many begins g consumes)
    many_seen consumes m n = record {
      nests = many_nests;
      front = λ rest test f vs r h i e. many_front test f vs r h e;
      here = λ vs r h e. (let k = and_parts (not (run begins r)) (form.follows r) e in
          many_here m n vs r h k.1 (not-true (run begins r) k.0));
      only = many_only;
    }

pub prints_only : {A : Type 0} {form : Form A} {g : Production A} → Prints form g
    → OnlyPrintable g form.printable
prints_only {A = A} {form = form} p = record {
  holds = λ v c r a s. (let x = p.only v c r a s in
      subst (λ (w : A). form.printable w ≡ true) x.1 x.2);
}

map_same : {A : Type 0} (vs : List A) → map (λ v. v) vs ≡ vs
map_same [] = refl
map_same (v ∷ vs) = ap (λ l. v ∷ l) (map_same vs)

module _ {A : Type 0} {form : Form A} {g : Production A} (begins : asked.Test) (p : Prints form g)
  where
    pub many_prints : (consumes : 1 ≤ g.least) → Must form.empty (form.Fronts any (λ t. run begins t))
        → Must form.empty (form.Fronts any form.follows)
        → Prints (many_form (λ t. run begins t) form) (many begins g consumes)
    many_prints consumes m n = seen_as map_same (many_seen begins p consumes m n)

-- ---- groups

paren_front : (b : Bool) (F : Test → Test → Type 0) (test : Test) (x r : List Token)
    → (F any (λ t. test (LParen ∷ t)) → Passes b (λ t. test (LParen ∷ t)) (RParen ∷ r)
    → test (LParen ∷ (x ++ (RParen ∷ r))) ≡ true)
    → ParenFronts b F test → test (LParen ∷ (x ++ (RParen ∷ r))) ≡ true
paren_front true F test x r f h = f h.0 (h.1 r)
paren_front false F test x r f h = f h tt

module _ {N : Bool → List Token → Type 0} {A B : Type 0} {form : Form A} {view : A → B}
    {g : Production B} (p : UnparsesAs N form view g)
    (shut : (x : List Token) → N form.balanced x → WellFormed (in_parens x))
  where
    in_parens_front : (test : Test) → ParenFronts form.empty form.Fronts test → (a : A)
        (r : List Token) → form.ready a ≡ true → test (in_parens (form.spell a) ++ r) ≡ true
    in_parens_front test f a r h =
        subst (λ (l : List Token). test (LParen ∷ l) ≡ true)
        (sym (append_assoc (form.spell a) (RParen ∷ []) r))
        (paren_front form.empty form.Fronts test (form.spell a) r
        (λ f e. p.front any (λ t. test (LParen ∷ t)) f a (RParen ∷ r) h refl e) f)

    shut_prints : Unparses (paren_form form) view (paren g)
    shut_prints = record {
      nests = λ a h. shut (form.spell a) (p.nests a h);
      front = λ rest test f a r h i e. in_parens_front test f a r h;
      here = λ a r h e. (form.spell a, refl, p.here a (RParen ∷ r) h e);
      only = λ b c r a s. (let k = given_parts c (LParen ∷ s.0) (RParen ∷ []) s.1 a in
          p.only b s.0 (RParen ∷ r) k.0 s.2);
    }

module _ {A B : Type 0} {form : Form A} {view : A → B} {g : Production B}
  where
    -- ( .. )
    pub paren_prints : Unparses form view g → Unparses (paren_form form) view (paren g)
    paren_prints p = shut_prints p (nests_paren form.balanced)

    -- ( .. ), if only the tokens in parentheses are well formed
    pub grouped_prints : Inside form view g → Unparses (paren_form form) view (paren g)
    grouped_prints p = shut_prints p (λ x n. n)

module _ {N : Bool → List Token → Type 0} {A B : Type 0} {form : Form A} {view : A → B}
    {g : Production B} (p : UnparsesAs N form view g)
  where
    led_only : (k : Production (Unit {0})) (b : B) (c r : List Token) → each is_given c ≡ true
        → (made (λ v. v.1) (seq k g)).spells b c r
        → (a : A) × (view a ≡ b) × (form.printable a ≡ true)
    led_only k b c r a s =
        let t = s.1 in
        let i = given_parts c t.0 t.1 t.2 a in
        let x = p.only s.0.1 t.1 r i.1 t.4 in
        (x.0, x.1 ∙ s.3, x.2)

    -- a token, which k reads, and then the form
    pub led_prints : {M : Bool → List Token → Type 0} (Fronts : Test → Type 0) (t : Token)
        (k : Production (Unit {0}))
        → Spells k tt (t ∷ [])
        → ((test : Test) (y : List Token) → Fronts test → test (t ∷ y) ≡ true)
        → ((a : A) → form.ready a ≡ true → M form.balanced (t ∷ form.spell a))
        → UnparsesAs M (led_form Fronts t form) view (made (λ v. v.1) (seq k g))
    led_prints Fronts t k reads first nests = record {
      nests = nests;
      front = λ rest test f a r h i e. first test (form.spell a ++ r) f;
      here = λ a r h i. (
        (tt, view a),
        (t ∷ [], form.spell a, refl, reads (form.spell a ++ r), p.here a r h i),
        refl,
        refl,
      );
      only = led_only k;
    }

module _ {A B : Type 0} {form : Form A} {view : A → B} {g : Production B}
    (p : Unparses form view g)
  where
    -- word, then the form
    pub after_prints : (w : List ℕ) → is_keyword w ≡ true → bytes_eq w w ≡ true
        → Unparses (after_form w form) view (after_word w g)
    after_prints w k e =
        led_prints p (OfWord w any) (Keyword w) (word w) (word_here w e) (λ test y f. f y refl)
        (λ a h. nests_seq true form.balanced (Keyword w ∷ []) (form.spell a)
        (well_formed_one (Keyword w) k) (p.nests a h))

module _ {A B : Type 0} {form : Form A} {view : A → B} {g : Production B}
    (p : Unparses form view g)
  where
    -- ( word .. )
    pub group_prints : (w : List ℕ) → is_keyword w ≡ true → bytes_eq w w ≡ true
        → Unparses (group_form w form) view (group w g)
    group_prints w k e = paren_prints (after_prints p w k e)

pub turn_prints : Prints turn_form turn
turn_prints = record {
  nests = λ v h. closes_turn;
  front = λ rest test f v r h i e. f r;
  here = λ v r h e. refl;
  only = λ v c r a s. (tt, refl, refl);
}

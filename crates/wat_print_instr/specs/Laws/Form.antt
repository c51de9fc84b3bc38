-- Laws: the forms of this crate, and the facts that they need.
use Rattle.std.proofs.Common.{◌≡◌, Bool, true, false, ◌&&◌, List, [], ◌∷◌, ◌++◌, Option, Some, None, unwrap_or, refl, subst, sym, append_assoc}
use Rattle.wat_print.specs.Laws.Prelude.{and_parts, cond_both, Token, made, opt, seq, Production, run, none_left, Test, any, Form, if_some, Printing, Prints, Unparses, Nests, Must, WellFormed, made_prints, option_prints, whole_where, passes_of, OnlyPrintable, given_parts, well_formed_both}
use Rattle.wat_print_instr.specs.Form.{unless, default_form, next_form, plain_form, exactly}
use Rattle.wat_tokens.specs.Test as asked

-- d is the default
module _ {A : Type 0} {form : Form A} {g : Production A} (begins : asked.Test) (p : Prints form g)
    (m : Must form.empty (form.Fronts any (λ t. run begins t))) (printable is_default : A → Bool) (d : A)
    (same : (v : A) → is_default v ≡ true → d ≡ v)
    (ready : (v : A) → is_default v ≡ false → printable v ≡ true → form.ready v ≡ true)
    (found : (v : A) → form.printable v ≡ true → printable v ≡ true)
    (absent : printable d ≡ true)
  where
    unless_is : (v : A) → unwrap_or (unless is_default v) d ≡ v
    unless_is v =
        cond_both (is_default v) None (Some v) (λ (o : Option A). unwrap_or o d ≡ v) (same v)
        (λ e. refl)

    unless_ready : (v : A) → printable v ≡ true → if_some form.ready (unless is_default v) ≡ true
    unless_ready v h =
        cond_both (is_default v) None (Some v) (λ (o : Option A). if_some form.ready o ≡ true)
        (λ e. refl) (λ e. ready v e h)

    found_or_default : (o : Option A) → if_some form.printable o ≡ true
        → printable (unwrap_or o d) ≡ true
    found_or_default (Some v) h = found v h
    found_or_default None h = absent

    pub default_prints : Prints (default_form printable (λ t. run begins t) is_default form)
        (made (λ o. unwrap_or o d) (opt begins g))
    default_prints =
        whole_where (made_prints (option_prints begins p m) (λ o. unwrap_or o d))
        (unless is_default) printable (λ v h. unless_is v) unless_ready found_or_default

module _ {A B C D : Type 0} {form : Form A} {other : Form B} {view : A → C} {also : B → D}
    {g : Production C} {h : Production D} (ends : Test) (p : Unparses form view g)
    (q : Unparses other also h) (b : form.balanced ≡ true) (c : other.balanced ≡ true)
  where
    next_nests : (v : A × B) → form.ready v.0 && other.ready v.1 ≡ true
        → WellFormed (form.spell v.0 ++ other.spell v.1)
    next_nests v k =
        let a = and_parts (form.ready v.0) (other.ready v.1) k in
        well_formed_both (form.spell v.0) (other.spell v.1)
        (subst (λ (x : Bool). Nests x (form.spell v.0)) b (p.nests v.0 a.0))
        (subst (λ (x : Bool). Nests x (other.spell v.1)) c (q.nests v.1 a.1))

    -- the second part, before the rest
    second_front : (rest test : Test) → other.Fronts rest test → (v : B) (r : List Token)
        → other.ready v ≡ true → rest r ≡ true → test r ≡ true → test (other.spell v ++ r) ≡ true
    second_front rest test f v r k i e =
        q.front rest test f v r k i (passes_of other.empty test r e)

    next_front : (rest test : Test)
        → other.Fronts rest rest × (form.Fronts rest test × other.Fronts rest test) → (v : A × B)
        (r : List Token)
        → form.ready v.0 && other.ready v.1 ≡ true → rest r ≡ true → test r ≡ true
        → test ((form.spell v.0 ++ other.spell v.1) ++ r) ≡ true
    next_front rest test f v r k i e =
        let a = and_parts (form.ready v.0) (other.ready v.1) k in
        let x = other.spell v.1 ++ r in
        subst (λ (l : List Token). test l ≡ true)
        (sym (append_assoc (form.spell v.0) (other.spell v.1) r))
        (p.front rest test f.1.0 v.0 x a.0 (second_front rest rest f.0 v.1 r a.1 i i)
        (passes_of form.empty test x (second_front rest test f.1.1 v.1 r a.1 i e)))

    pub next_prints : other.Fronts ends form.follows
        → Unparses (next_form ends form other) (λ v. (view v.0, also v.1)) (seq g h)
    next_prints f = record {
      nests = next_nests;
      front = next_front;
      here = λ v r k e. (
          let a = and_parts (form.ready v.0) (other.ready v.1) k in
          let i = and_parts (ends r) (form.follows r && other.follows r) e in
          let j = and_parts (form.follows r) (other.follows r) i.1 in (
            form.spell v.0,
            other.spell v.1,
            refl,
            p.here v.0 (other.spell v.1 ++ r) a.0
                (second_front ends form.follows f v.1 r a.1 i.0 j.0),
            q.here v.1 r a.1 j.1,
          ));
      only = λ w c r a s. (
          let k = given_parts c s.0 s.1 s.2 a in
          let x = p.only w.0 s.0 (s.1 ++ r) k.0 s.3 in
          let y = q.only w.1 s.1 r k.1 s.4 in
          ((x.0, y.0), rw (x.1, y.1) refl, rw (x.2, y.2) refl));
    }

pub plain_prints : {A : Type 0} {g : Production A} {printable : A → Bool} {follows : Test}
    (spell : A → List Token) → ((v : A) → printable v ≡ true → WellFormed (spell v))
    → ((v : A) (r : List Token) → printable v ≡ true → follows r ≡ true → g.spells v (spell v) r)
    → OnlyPrintable g printable → Prints (plain_form spell printable follows) g
plain_prints spell well_formed here only = record {
  nests = well_formed;
  front = λ rest test f v r h i e. f v r h i e;
  here = here;
  only = λ v c r a s. (v, refl, only.holds v c r a s);
}

at_end : (r : List Token) → none_left r ≡ true → [] ≡ r
at_end [] e = refl
at_end (x ∷ r) e = absurd cc

pub exactly_prints : {A : Type 0} {g : Production A} (p : Printing g) → Prints (exactly p) g
exactly_prints {g = g} p =
    plain_prints p.spell p.well_formed
    (λ v r h e. (subst (λ (l : List Token). g.spells v (p.spell v) l) (at_end r e) (p.spells v h)))
    (record { holds = p.only })

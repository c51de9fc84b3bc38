-- Laws: constants of 128 bits and shuffled lanes are read again.
use Rattle.std.proofs.Common.{◌≡◌, ◌≤◌, ℕ, ℤ, ◌+◌, Bool, true, ◌&&◌, ◌==◌, List, [], ◌∷◌, ◌++◌, codes, decimal, flat_map, length, take, drop, rules, refl, subst, sym, ap, ◌∙◌, inl, inr, lit≤, arith}
use Rattle.std.proofs.lemmas.List.{length-take, length-drop}
use Rattle.wat_expr.specs.Prelude.{two, four, eight, sixteen, float_const, wide_const, v128_const, shuffle, V128Const, I8x16, I16x8, I32x4, I64x2, F32x4}
use Rattle.wat_print.specs.Laws.Prelude.{signed_decimal, bytes_eq, and_parts, eqb-true, flat_map-append, length-append, take-append-drop, Token, Integer, none, many, Production, begins_integer, at_integer, at_word, Test, any, Form, token_form, seq_form, many_form, OfIntegers, each, Prints, Unparses, WellFormed, is_given, is_keyword, word_prints, seq_prints, made_prints, whole_prints, whole_where, respelled, else_prints, many_prints, OnlyPrintable, each_both, each_front, same_number}
use Rattle.wat_operands.specs.Vector.{twice, shaped, shuffle_of}
use Rattle.wat_print_instr.specs.Numbers.{is_signed, signed_form, is_unsigned, printable_number_of}
use Rattle.wat_print_instr.specs.Vectors.{number_of_form, never_form, lanes_form, vector_parts, vector_form, shuffle_lanes, shuffle_form}
use Rattle.wat_print_instr.specs.Laws.Numbers.{halves_8, halves_16, halves_32, halves_64, signed_prints, unsigned_prints}

-- ---- a number of values

-- values of one integer each
module _ {A : Type 0} {g : Production A} (token : A → Token) (ok : A → Bool)
    (p : Prints (token_form token ok OfIntegers) g) (consumes : 1 ≤ g.least)
  where
    abbrev number_form : ℕ → Form (List A)
    number_form n = number_of_form n (token_form token ok OfIntegers)

    abbrev spell_all : List A → List Token
    spell_all vs = flat_map (λ v. token v ∷ []) vs

    all_prints : Prints (many_form begins_integer (token_form token ok OfIntegers))
        (many at_integer g consumes)
    all_prints = many_prints at_integer p consumes (search rules) (search rules)

    number_nests : (n : ℕ) (vs : List A) → printable_number_of n ok vs ≡ true
        → WellFormed (spell_all vs)
    number_nests n vs h = all_prints.nests vs (and_parts (length vs == n) (each ok vs) h).1

    number_front : (n : ℕ) (rest test : Test) → OfIntegers any test → (vs : List A) (r : List Token)
        → printable_number_of n ok vs ≡ true → rest r ≡ true → test r ≡ true
        → test (spell_all vs ++ r) ≡ true
    number_front n rest test f vs r h i e =
        all_prints.front rest test f vs r (and_parts (length vs == n) (each ok vs) h).1 i e

    pairs : Unparses (seq_form (token_form token ok OfIntegers) (token_form token ok OfIntegers))
        (λ v. v.0 ∷ (v.1 ∷ [])) (two g)
    unfolding two
    pairs = made_prints (seq_prints p p (search rules)) (λ v. v.0 ∷ (v.1 ∷ []))

    two_here : (vs : List A) (r : List Token) → printable_number_of 2 ok vs ≡ true
        → (two g).spells vs (spell_all vs) r
    two_here [] r h = absurd cc
    two_here (v ∷ []) r h = absurd cc
    two_here (v ∷ w ∷ x ∷ vs) r h =
        let e = eqb-true (length (v ∷ w ∷ x ∷ vs)) 2 (and_parts _ _ h).0 in
        absurd (omega (arith, e))
    two_here (v ∷ w ∷ []) r h =
        let a = and_parts (ok v) (ok w && true) h in
        pairs.here (v, w) r (rw (a.0, (and_parts (ok w) true a.1).0) refl) refl

    two_only : (vs : List A) (c r : List Token) → each is_given c ≡ true → (two g).spells vs c r
        → printable_number_of 2 ok vs ≡ true
    two_only vs c r a s =
        let x = pairs.only vs c r a s in
        let k = and_parts (ok x.0.0) (ok x.0.1) x.2 in
        subst (λ (us : List A). printable_number_of 2 ok us ≡ true) x.1 (rw (k.0, k.1) refl)

    pub two_prints : Prints (number_form 2) (two g)
    two_prints = record {
      nests = number_nests 2;
      front = number_front 2;
      here = λ vs r h e. two_here vs r h;
      only = λ vs c r a s. (vs, refl, two_only vs c r a s);
    }

    halves_ready : (n : ℕ) (vs : List A) → printable_number_of (n + n) ok vs ≡ true
        → printable_number_of n ok (take n vs) && printable_number_of n ok (drop n vs) ≡ true
    halves_ready n vs h =
        let a = and_parts (length vs == n + n) (each ok vs) h in
        let e = eqb-true (length vs) (n + n) a.0 in
        let f = each_front ok (take n vs) (drop n vs)
        (subst (λ (us : List A). each ok us ≡ true) (sym (take-append-drop n vs)) a.1) in
        let k : length (take n vs) ≡ n = omega (arith, length-take n vs) in
        let l : length (drop n vs) ≡ n = omega (arith, length-drop n vs) in
        rw (k, l, same_number n, f.0, f.1) refl

    halves_cover : (n : ℕ) (v : List A × List A)
        → printable_number_of n ok v.0 && printable_number_of n ok v.1 ≡ true
        → printable_number_of (n + n) ok (v.0 ++ v.1) ≡ true
    halves_cover n v h =
        let a = and_parts (printable_number_of n ok v.0) (printable_number_of n ok v.1) h in
        let b = and_parts (length v.0 == n) (each ok v.0) a.0 in
        let c = and_parts (length v.1 == n) (each ok v.1) a.1 in
        let d = eqb-true (length v.0) n b.0 in
        let e = eqb-true (length v.1) n c.0 in
        let k : length (v.0 ++ v.1) ≡ n + n = omega (arith, length-append v.0 v.1) in
        rw (k, same_number (n + n)) (each_both ok v.0 v.1 b.1 c.1)

    pub twice_prints : (n : ℕ) (h : Production (List A)) → Prints (number_form n) h
        → Prints (number_form (n + n)) (twice h)
    twice_prints n h q =
        let x = respelled (whole_where (made_prints (seq_prints q q (λ y z e. refl))
        (λ v. v.0 ++ v.1)) (λ vs. (take n vs, drop n vs)) (printable_number_of (n + n) ok)
        (λ vs k. take-append-drop n vs) (halves_ready n) (halves_cover n)) spell_all
        (λ vs k. sym (flat_map-append (λ v. token v ∷ []) (take n vs) (drop n vs))
        ∙ ap spell_all (take-append-drop n vs)) in
        record {
          nests = number_nests (n + n);
          front = number_front (n + n);
          here = x.here;
          only = x.only;
        }

    pub four_prints : Prints (number_form 4) (four g)
    unfolding four
    four_prints = twice_prints 2 (two g) two_prints

    pub eight_prints : Prints (number_form 8) (eight g)
    unfolding eight
    eight_prints = twice_prints 4 (four g) four_prints

    pub sixteen_prints : Prints (number_form 16) (sixteen g)
    unfolding sixteen
    sixteen_prints = twice_prints 8 (eight g) eight_prints

-- ---- floating-point numbers, which no tokens spell

pub never_prints : {A B : Type 0} (view : A → B) (g : Production B)
    → ((v : B) (c r : List Token) → g.spells v c r → ⊥)
    → Unparses never_form view g
never_prints view g unread = record {
  nests = λ v h. absurd cc;
  front = λ rest test f v r h i e. absurd cc;
  here = λ v r h e. absurd cc;
  only = λ v c r a s. absurd (unread v c r s);
}

pub none_prints : {A : Type 0} → Prints never_form (none {A = A})
none_prints {A = A} = never_prints (λ (v : A). v) none (λ v c r s. s)

no_floats : (v : V128Const) (c r : List Token) → float_const.spells v c r → ⊥
unfolding float_const four two
no_floats v c r (inl s) = s.1.1.4.1.3.1.3
no_floats v c r (inr s) = s.1.1.4.1.3

-- ---- constants

shape_prints : {g : Production (List ℤ)} (w : List ℕ) (n bits : ℕ) → is_keyword w ≡ true
    → bytes_eq w w ≡ true → (f : List ℤ → V128Const)
    → Prints (number_of_form n (signed_form bits)) g
    → Unparses (lanes_form w n bits) (λ v. f v.1) (shaped w f g)
shape_prints w n bits k e f p =
    made_prints (seq_prints (word_prints w k e) p (λ y z h. refl)) (λ v. f v.1)

pub vector_prints : Prints vector_form v128_const
unfolding v128_const wide_const
vector_prints =
    whole_prints (else_prints (at_word (codes "i8x16"))
    (shape_prints (codes "i8x16") 16 8 refl refl I8x16
    (sixteen_prints (λ z. Integer (signed_decimal z)) (is_signed 8) (signed_prints 8 halves_8)
    (lit≤ tt))) (else_prints (at_word (codes "i16x8"))
    (shape_prints (codes "i16x8") 8 16 refl refl I16x8
    (eight_prints (λ z. Integer (signed_decimal z)) (is_signed 16) (signed_prints 16 halves_16)
    (lit≤ tt))) (else_prints (at_word (codes "i32x4"))
    (shape_prints (codes "i32x4") 4 32 refl refl I32x4
    (four_prints (λ z. Integer (signed_decimal z)) (is_signed 32) (signed_prints 32 halves_32)
    (lit≤ tt))) (else_prints (at_word (codes "i64x2"))
    (shape_prints (codes "i64x2") 2 64 refl refl I64x2
    (two_prints (λ z. Integer (signed_decimal z)) (is_signed 64) (signed_prints 64 halves_64)
    (lit≤ tt))) (never_prints (λ u. F32x4 []) float_const no_floats)
    (search rules) (search rules)) (search rules) (search rules)) (search rules) (search rules))
    (search rules) (search rules)) vector_parts (λ v h. grind arith) (λ v h. h)
    (λ v h. grind arith)

-- ---- shuffles

pub shuffle_prints : Prints shuffle_form shuffle
unfolding shuffle
shuffle_prints =
    whole_prints (made_prints (sixteen_prints (λ n. Integer (decimal n)) (is_unsigned 8)
    (unsigned_prints 8 (lit≤ tt) (lit≤ tt)) (lit≤ tt)) shuffle_of) shuffle_lanes (λ s h. refl)
    (λ s h. h) (λ v h. h)

-- ---- the former name, for crates whose printings aren't forms

pub none_only : {A : Type 0} (printable : A → Bool) → OnlyPrintable (none {A = A}) printable
none_only printable = record { holds = λ v c r a s. absurd s }

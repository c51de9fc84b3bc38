-- Laws: values that tokens of a text spell can be written, part by part.
use Rattle.std.proofs.Common.{◌≡◌, ◌≤◌, ℕ, Bool, true, ◌&&◌, List, [], ◌∷◌, ◌++◌, Option, Some, refl, subst, inl, inr, sym}
use Rattle.wat_types.specs.Prelude.{bytes_eq, and_parts, cond_both, bytes_eq-Decides, Token, LParen, RParen, Keyword, many, many_spells, NoParens, one, seq, where_else, made_where, word, after_word, Production, look_up, word_in, Test, run}
use Rattle.wat_print.specs.WellFormed.{is_given}
use Rattle.wat_print.specs.Parts.{each}
use Rattle.wat_print.specs.Laws.Parts.{each_front}

-- each value that tokens of a text spell passes the test `printable`
pub record OnlyPrintable {A : Type 0} (g : Production A) (printable : A → Bool) : Type 0 where
  pub holds : (v : A) (c r : List Token) → each is_given c ≡ true → g.spells v c r
      → printable v ≡ true

pub given_parts : (c d e : List Token) → c ≡ d ++ e → each is_given c ≡ true
    → (each is_given d ≡ true) × (each is_given e ≡ true)
given_parts c d e s a =
    each_front is_given d e (subst (λ (l : List Token). each is_given l ≡ true) s a)

-- the tokens after a `(`, in three parts: the first tokens of its group, the further tokens of its
-- group, and the tokens after its `)`
pub given_group : (f y x : List Token) → each is_given (LParen ∷ (f ++ (y ++ (RParen ∷ x)))) ≡ true
    → (each is_given f ≡ true) × (each is_given y ≡ true) × (each is_given x ≡ true)
given_group f y x g =
    let a = each_front is_given f (y ++ (RParen ∷ x)) g in
    let b = each_front is_given y (RParen ∷ x) a.1 in
    (a.0, b.0, b.1)

-- an entry of a table passes each test that all entries of the table pass
entry_passes : {A : Type 0} (test : List ℕ → A → Bool) (table : List (List ℕ × A)) (w : List ℕ)
    (v : A) → each (λ e. test e.0 e.1) table ≡ true → look_up table w ≡ Some v → test w v ≡ true
entry_passes test [] w v a e = absurd cc
entry_passes {A = A} test (x ∷ table) w v a e =
    let p = and_parts (test x.0 x.1) (each (λ e. test e.0 e.1) table) a in
    cond_both (bytes_eq w x.0) (Some x.1) (look_up table w)
    (λ (o : Option A). o ≡ Some v → test w v ≡ true)
    (λ k f. (let same : x.1 ≡ v = cc in
    subst (λ (u : List ℕ). test u v ≡ true) (sym ((bytes_eq-Decides w x.0).0 k))
    (subst (λ (u : A). test x.0 u ≡ true) same p.0)))
    (λ k f. (entry_passes test table w v p.1 f)) e

-- a word of a table passes each test that all words of the table pass
pub table_word : {A : Type 0} (test : List ℕ → Bool) (table : List (List ℕ × A)) (w : List ℕ)
    (v : A) → each (λ e. test e.0) table ≡ true → look_up table w ≡ Some v → test w ≡ true
table_word test = entry_passes (λ u x. test u)

pub word_given : {A : Type 0} (printable : A → Bool) (table : List (List ℕ × A))
    → each (λ e. printable e.1) table ≡ true → (t : Token) (v : A) → is_given t ≡ true
    → word_in table t ≡ Some v → printable v ≡ true
word_given printable table h (Keyword w) v a e = entry_passes (λ u x. printable x) table w v h e
word_given printable table h LParen v a e = absurd cc
word_given printable table h _ v a e = absurd cc

pub only_any : {A : Type 0} (g : Production A) → OnlyPrintable g (λ _. true)
only_any g = record { holds = λ v c r a s. refl }

pub only_one : {A : Type 0} (value_of : Token → Option A) (flat : NoParens value_of)
    (printable : A → Bool)
    → ((t : Token) (v : A) → is_given t ≡ true → value_of t ≡ Some v → printable v ≡ true)
    → OnlyPrintable (one value_of flat) printable
only_one value_of flat printable h =
    record {
      holds = λ v c r a s. (let k = subst (λ (l : List Token). each is_given l ≡ true) s.1 a in
          h s.0 v (and_parts (is_given s.0) true k).0 s.2);
    }

-- a keyword of a table, if each value of the table can be written
pub only_word_in : {A : Type 0} (table : List (List ℕ × A)) (printable : A → Bool)
    → each (λ e. printable e.1) table ≡ true
    → OnlyPrintable (one (word_in table) (refl, refl)) printable
only_word_in table printable h =
    only_one (word_in table) (refl, refl) printable (word_given printable table h)

where_holds : {A : Type 0} {g h : Production A} {printable : A → Bool} (test : Test)
    → OnlyPrintable g printable → OnlyPrintable h printable → (v : A) (c r : List Token)
    → each is_given c ≡ true
    → (where_else test g h).spells v c r → printable v ≡ true
where_holds test m n v c r a s =
    elim s [ inl k ↦ m.holds v c r a k.1 | inr k ↦ n.holds v c r a k.1 ]

pub only_where : {A : Type 0} {g h : Production A} {printable : A → Bool} (test : Test)
    → OnlyPrintable g printable → OnlyPrintable h printable
    → OnlyPrintable (where_else test g h) printable
only_where test m n = record { holds = where_holds test m n }

many_holds : {A : Type 0} {g : Production A} {printable : A → Bool} (begins : List Token → Bool)
    → OnlyPrintable g printable → (vs : List A) (c r : List Token) → each is_given c ≡ true
    → many_spells begins g vs c r → each printable vs ≡ true
many_holds begins m [] c r a s = refl
many_holds begins m (v ∷ vs) c r a s =
    let p = given_parts c s.0 s.1 s.2 a in
    rw (m.holds v s.0 (s.1 ++ r) p.0 s.4) (many_holds begins m vs s.1 r p.1 s.5)

pub only_many : {A : Type 0} {g : Production A} {printable : A → Bool} (begins : Test)
    (consumes : 1 ≤ g.least) → OnlyPrintable g printable
    → OnlyPrintable (many begins g consumes) (each printable)
only_many begins consumes m = record { holds = many_holds (λ t. run begins t) m }

pub only_seq : {A B : Type 0} {g : Production A} {h : Production B} {f : A → Bool} {k : B → Bool}
    → OnlyPrintable g f → OnlyPrintable h k → OnlyPrintable (seq g h) (λ v. f v.0 && k v.1)
only_seq m n =
    record {
      holds = λ v c r a s. (let p = given_parts c s.0 s.1 s.2 a in
          rw (m.holds v.0 s.0 (s.1 ++ r) p.0 s.3, n.holds v.1 s.1 r p.1 s.4) refl);
    }

pub only_made : {A B : Type 0} {g : Production A} (ok : A → Bool) (make : A → B)
    (printable : B → Bool)
    → OnlyPrintable g (λ v. printable (make v)) → OnlyPrintable (made_where ok make g) printable
only_made {B = B} ok make printable m =
    record {
      holds = λ v c r a s. (subst (λ (w : B). printable w ≡ true) s.3 (m.holds s.0 c r a s.1));
    }

-- a weaker test
pub only_weaker : {A : Type 0} {g : Production A} {f : A → Bool} (k : A → Bool)
    → ((v : A) → f v ≡ true → k v ≡ true) → OnlyPrintable g f → OnlyPrintable g k
only_weaker k h m = record { holds = λ v c r a s. h v (m.holds v c r a s) }

pub only_after : {A : Type 0} {g : Production A} {printable : A → Bool} (w : List ℕ)
    → OnlyPrintable g printable
    → OnlyPrintable (after_word w g) printable
only_after {printable = printable} w m =
    only_made (λ _. true) (λ v. v.1) printable (only_seq (only_any (word w)) m)

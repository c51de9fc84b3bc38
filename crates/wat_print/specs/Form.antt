-- Forms: how values are written. Forms combine as productions do.
-- Example: `seq_form (flag_form w) index_form` writes the keyword w if the flag is true, and then
-- the index.
use Rattle.std.specs.Prelude.{Some, None, ◌≡◌, ℕ, Bool, true, false, not, ◌&&◌, ◌||◌, if◌then◌else◌, List, [], ◌∷◌, ◌++◌, Option, flat_map, ◌⊎◌}
use Rattle.std.proofs.Common.{inl, inr}
use Rattle.wat_types.specs.Prelude.{Token, LParen, RParen, Keyword, in_parens, begins_word}
use Rattle.wat_print.specs.Parts.{spell_option, if_some, each}

-- a test of a list of tokens, usually of the rest
abbrev pub Test : Type 0
Test = List Token → Bool

-- passes for every rest
abbrev pub any : Test
any r = true

-- How values of the type A are written. `Prints` in Prints.antt holds the facts about a form.
-- spell: returns the tokens to write for a value
-- printable: true for every value that the tokens of some text spell
-- ready: true only for values that the form can write
-- follows: true only for rests before which the written tokens are read as the value
-- empty: true if the form may write no token
-- balanced: true if each `)` closes a `(` of the same tokens
-- Fronts: `Fronts rest test` is a condition on `test`. If the condition holds, `test` passes on the
-- written tokens followed by any rest that passes `rest`. If `empty` is true, `test` must also pass
-- on that rest.
pub record Form (A : Type 0) : Type 1 where
  pub spell : A → List Token
  pub printable : A → Bool
  pub ready : A → Bool
  pub follows : List Token → Bool
  pub empty : Bool
  pub balanced : Bool
  pub Fronts : Test → Test → Type 0

-- ---- one token

abbrev pub token_form : {A : Type 0} → (A → Token) → (A → Bool) → (Test → Test → Type 0) → Form A
token_form token printable Fronts = record {
  spell = λ v. token v ∷ [];
  printable = printable;
  ready = printable;
  follows = any;
  empty = false;
  balanced = true;
  Fronts = Fronts;
}

-- `test` passes on the word followed by any rest that passes `rest`
abbrev pub OfWord : List ℕ → Test → Test → Type 0
OfWord w rest test = (y : List Token) → rest y ≡ true → test (Keyword w ∷ y) ≡ true

abbrev pub word_form : List ℕ → Form (Unit {0})
word_form w = token_form (λ _. Keyword w) (λ _. true) (OfWord w)

-- word?: the word if the flag is true
abbrev pub flag_form : List ℕ → Form Bool
flag_form w = record {
  spell = λ b. if b then Keyword w ∷ [] else [];
  printable = λ _. true;
  ready = λ _. true;
  follows = λ r. not (begins_word w r);
  empty = true;
  balanced = true;
  Fronts = OfWord w;
}

-- ---- one part, and then another

abbrev pub seq_follows : Bool → Test → Test → Test
seq_follows true f g r = f r && g r
seq_follows false f g r = g r

abbrev pub SeqFronts : Bool → (Test → Test → Type 0) → (Test → Test → Type 0) → Test → Test → Test
    → Type 0
SeqFronts true F G behind rest test = F behind test × G rest test
SeqFronts false F G behind rest test = F behind test

-- p, then q. `behind` is a test that passes on the tokens of q followed by any rest. Fronts of p
-- takes `behind` as the test of its rest.
abbrev pub behind_form : {A B : Type 0} → Test → Form A → Form B → Form (A × B)
behind_form behind p q = record {
  spell = λ v. p.spell v.0 ++ q.spell v.1;
  printable = λ v. p.printable v.0 && q.printable v.1;
  ready = λ v. p.ready v.0 && q.ready v.1;
  follows = seq_follows q.empty p.follows q.follows;
  empty = p.empty && q.empty;
  balanced = p.balanced && q.balanced;
  Fronts = SeqFronts p.empty p.Fronts q.Fronts behind;
}

abbrev pub seq_form : {A B : Type 0} → Form A → Form B → Form (A × B)
seq_form p q = behind_form any p q

-- ---- a value, written by its parts

abbrev pub by : {A B : Type 0} → (B → A) → Form A → Form B
by parts p = record {
  spell = λ v. p.spell (parts v);
  printable = λ v. p.printable (parts v);
  ready = λ v. p.printable (parts v);
  follows = p.follows;
  empty = p.empty;
  balanced = p.balanced;
  Fronts = p.Fronts;
}

-- the same, with a separate test for `printable` and `ready`
abbrev pub by_where : {A B : Type 0} → (B → Bool) → (B → A) → Form A → Form B
by_where printable parts p = record {
  spell = λ v. p.spell (parts v);
  printable = printable;
  ready = printable;
  follows = p.follows;
  empty = p.empty;
  balanced = p.balanced;
  Fronts = p.Fronts;
}

-- p, but ready only for values that pass `ok`
abbrev pub only_where_form : {A : Type 0} → (A → Bool) → Form A → Form A
only_where_form ok p = record p { ready = λ v. ok v && p.ready v }

-- p, but never ready: no value is written by this form
abbrev pub unwritten_form : {A : Type 0} → Form A → Form A
unwritten_form p = record p { ready = λ _. false; Fronts = λ rest test. Unit {0} }

-- ---- one of two

abbrev pub pick : {A B C : Type 0} → (A → C) → (B → C) → A ⊎ B → C
pick f g (inl a) = f a
pick f g (inr b) = g b

-- if the second part may write no token, the rest must fail the test
abbrev pub else_follows : Bool → Test → Test → Test
else_follows true test f r = not (test r) && f r
else_follows false test f r = f r

-- p or q. `test` selects p: the tokens of q fail the test before each rest that passes `rest`.
abbrev pub told_form : {A B : Type 0} → Test → Test → Form A → Form B → Form (A ⊎ B)
told_form rest test p q = record {
  spell = pick p.spell q.spell;
  printable = pick p.printable q.printable;
  ready = pick p.ready q.ready;
  follows = λ r. rest r && (p.follows r && else_follows q.empty test q.follows r);
  empty = p.empty || q.empty;
  balanced = p.balanced && q.balanced;
  Fronts = λ x y. p.Fronts x y × q.Fronts x y;
}

abbrev pub else_form : {A B : Type 0} → Test → Form A → Form B → Form (A ⊎ B)
else_form test p q = told_form any test p q

-- ---- parts that may be absent, and lists of parts

abbrev pub some_and : {A : Type 0} → (A → Bool) → Option A → Bool
some_and test (Some v) = test v
some_and test None = false

abbrev pub option_form : {A : Type 0} → Test → Form A → Form (Option A)
option_form begins p = record {
  spell = spell_option p.spell;
  printable = if_some p.printable;
  ready = if_some p.ready;
  follows = λ r. not (begins r) && p.follows r;
  empty = true;
  balanced = p.balanced;
  Fronts = p.Fronts;
}

-- the same, but ready only for values that are present
abbrev pub filled_form : {A : Type 0} → Test → Form A → Form (Option A)
filled_form begins p = record {
  spell = spell_option p.spell;
  printable = if_some p.printable;
  ready = some_and p.ready;
  follows = p.follows;
  empty = p.empty;
  balanced = p.balanced;
  Fronts = p.Fronts;
}

abbrev pub many_form : {A : Type 0} → Test → Form A → Form (List A)
many_form begins p = record {
  spell = flat_map p.spell;
  printable = each p.printable;
  ready = each p.ready;
  follows = λ r. not (begins r) && p.follows r;
  empty = true;
  balanced = p.balanced;
  Fronts = λ rest. p.Fronts any;
}

-- ---- groups

abbrev pub ParenFronts : Bool → (Test → Test → Type 0) → Test → Type 0
ParenFronts true F test =
    F any (λ t. test (LParen ∷ t)) × ((y : List Token) → test (LParen ∷ RParen ∷ y) ≡ true)
ParenFronts false F test = F any (λ t. test (LParen ∷ t))

-- ( .. )
abbrev pub paren_form : {A : Type 0} → Form A → Form A
paren_form p = record {
  spell = λ v. in_parens (p.spell v);
  printable = p.printable;
  ready = p.ready;
  follows = λ r. p.follows (RParen ∷ r);
  empty = false;
  balanced = true;
  Fronts = λ rest. ParenFronts p.empty p.Fronts;
}

-- `) (`
abbrev pub turn_form : Form (Unit {0})
turn_form = record {
  spell = λ _. RParen ∷ LParen ∷ [];
  printable = λ _. true;
  ready = λ _. true;
  follows = any;
  empty = false;
  balanced = false;
  Fronts = λ rest test. ((y : List Token) → test (RParen ∷ LParen ∷ y) ≡ true);
}

-- no tokens
abbrev pub blank_form : Form (Unit {0})
blank_form = record {
  spell = λ _. [];
  printable = λ _. true;
  ready = λ _. true;
  follows = any;
  empty = true;
  balanced = true;
  Fronts = λ rest test. Unit {0};
}

-- ---- shorter names

abbrev pub before_unit : {A : Type 0} → A → A × Unit {0}
before_unit a = (a, tt)

-- the token, then p. `Fronts` is the condition on tests of tokens that begin with the token.
abbrev pub led_form : {A : Type 0} → (Test → Type 0) → Token → Form A → Form A
led_form Fronts t p = record {
  spell = λ v. t ∷ p.spell v;
  printable = p.printable;
  ready = p.ready;
  follows = p.follows;
  empty = false;
  balanced = p.balanced;
  Fronts = λ rest. Fronts;
}

-- word, then p
abbrev pub after_form : {A : Type 0} → List ℕ → Form A → Form A
after_form w = led_form (OfWord w any) (Keyword w)

-- ( word .. )
abbrev pub group_form : {A : Type 0} → List ℕ → Form A → Form A
group_form w p = paren_form (after_form w p)

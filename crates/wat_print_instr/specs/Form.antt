-- Forms of parts that are omitted if they have their default, and forms by their tokens.
use Rattle.std.specs.Prelude.{◌≡◌, Bool, true, ◌&&◌, if◌then◌else◌, List, ◌++◌, Option, Some, None}
use Rattle.wat_print.specs.Prelude.{Token, Production, none_left, Test, Form, seq_form, by_where, option_form, Printing}

-- None for a default
abbrev pub unless : {A : Type 0} → (A → Bool) → A → Option A
unless is_default v = if is_default v then None else Some v

-- p, or no token for a default
abbrev pub default_form : {A : Type 0} → (A → Bool) → Test → (A → Bool) → Form A → Form A
default_form printable begins is_default p =
    by_where printable (unless is_default) (option_form begins p)

-- p, then q; both may write no token. `ends` passes on the rest, and also on the tokens of q before
-- the rest. Fronts of p takes the test of the rest as the test of the tokens of q before the rest.
abbrev pub next_form : {A B : Type 0} → Test → Form A → Form B → Form (A × B)
next_form ends p q = record (seq_form p q) {
  follows = λ r. ends r && (p.follows r && q.follows r);
  empty = true;
  balanced = true;
  Fronts = λ rest test. q.Fronts rest rest × (p.Fronts rest test × q.Fronts rest test);
}

-- A form by its tokens and its two tests. `Fronts` is the whole fact about the first tokens.
abbrev pub plain_form : {A : Type 0} → (A → List Token) → (A → Bool) → Test → Form A
plain_form {A} spell printable follows = record {
  spell = spell;
  printable = printable;
  ready = printable;
  follows = follows;
  empty = true;
  balanced = true;
  Fronts = λ rest test. ((v : A) (r : List Token) → printable v ≡ true → rest r ≡ true
      → test r ≡ true → test (spell v ++ r) ≡ true);
}

-- the values of a printing, before the empty rest
abbrev pub exactly : {A : Type 0} {g : Production A} → Printing g → Form A
exactly p = plain_form p.spell p.printable none_left

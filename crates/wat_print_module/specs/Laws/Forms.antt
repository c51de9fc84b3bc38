-- Laws: productions with an alternative that is read, but never written.
use Rattle.std.proofs.Common.{◌≡◌, true, List, ◌++◌, refl, inl}
use Rattle.wat_print_instr.specs.Laws.Prelude.{Token, where_else, Production, run, Form, Prints, prints_only, OnlyPrintable, only_where}
use Rattle.wat_tokens.specs.Test.{Test}

-- the form writes the first alternative; the second alternative is only read
pub first_prints : {A : Type 0} {form : Form A} {g h : Production A} (test : Test) → Prints form g
    → ((v : A) (r : List Token) → run test (form.spell v ++ r) ≡ true)
    → OnlyPrintable h form.printable → Prints form (where_else test g h)
first_prints test p told only = record {
  nests = p.nests;
  front = p.front;
  here = λ v r k e. inl (told v r, p.here v r k e);
  only = λ v c r a s. (v, refl, (only_where test (prints_only p) only).holds v c r a s);
}

-- A call that writes one value writes a list of this value.
use Rattle.std.proofs.Common.{true, List, [], ◌∷◌, Result, refl, ap, sym, ◌∙◌, append-nil}
use Rattle.std.proofs.lemmas.Result.{on_ok_weaker, IfErr-weaker}
use Rattle.wat_print_instr.specs.Laws.Prelude.{and_from, and_left, Token, Form, Test, many_form, Printed, Page, put}
use Rattle.wat_print.specs.declared.fault.Refused.{Refused}

pub printed_one : {X A : Type 0} (begins : Test) (form : Form A) (v : A) (r : Result X Refused)
    (a b : Page) → Printed form v r a b → Printed (many_form begins form) (v ∷ []) r a b
printed_one begins form v r a b p =
    record {
      written = on_ok_weaker r (λ e. e
          ∙ ap (λ (l : List Token). put a l) (sym (append-nil (form.spell v)))) p.written;
      printable = on_ok_weaker r (λ e. and_from (form.printable v) true e refl) p.printable;
      refused = IfErr-weaker r _ _ (λ e f n. and_left (form.printable v) true (f n)) p.refused;
    }

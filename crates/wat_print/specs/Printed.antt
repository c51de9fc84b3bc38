-- The facts about printing.
use Rattle.std.specs.Prelude.{Result, OnOk, IfErr, ◌≢◌, ◌≡◌, ℕ, Bool, true, false, List, [], ◌++◌}
use Rattle.std.proofs.Common.{subst}
use Rattle.wat_types.specs.Prelude.{IsUtf8, IsCut, visible_tokens, Token, Placed, tokens_of, Production}
use Rattle.wat_print.specs.Form.{Form}
use Rattle.wat_print.specs.Layout.{Writes}
use Rattle.wat_print.specs.Parts.{each}
use Rattle.wat_print.specs.Prints.{Prints, Nests}
use Rattle.wat_print.specs.Text.{Page}
use Rattle.wat_print.specs.WellFormed.{WellFormed, is_given}
use Rattle.wat_print.specs.declared.fault.Refused.{Refused}
use Rattle.wat_print.specs.declared.fault.Refused.TheVariants.{Memory}
use Rattle.wat_print.specs.declared.output.Layout.{Layout}
use Rattle.wat_print.specs.declared.output.Layout.TheVariants.{Line, Indented}
use Rattle.wat_print.specs.Laws.Only.{OnlyPrintable}

-- lines may be broken
abbrev pub may_break : Layout → Bool
may_break Line = false
may_break Indented = true

-- no tokens of any text spell the value
abbrev pub NoneSpells : {A : Type 0} → Production A → A → Type 0
NoneSpells g v =
    (x : List ℕ) (ps : List Placed) (known : Bool) (b c r : List Token) → IsUtf8 x → IsCut x ps
    → visible_tokens known (tokens_of ps) ≡ b ++ (c ++ r) → g.spells v c r → ⊥

-- How the values of a production are printed.
-- spell: returns the tokens to write for a value
-- printable: true if the value can be written
-- well_formed: the written tokens can be cut again
-- spells: the written tokens spell the value
-- only: each value that tokens of a text spell is printable
pub record Printing {A : Type 0} (g : Production A) : Type 0 where
  pub spell : A → List Token
  pub printable : A → Bool
  pub well_formed : (v : A) → printable v ≡ true → WellFormed (spell v)
  pub spells : (v : A) → printable v ≡ true → g.spells v (spell v) []
  pub only : (v : A) (c r : List Token) → each is_given c ≡ true → g.spells v c r
      → printable v ≡ true

-- A call that writes v returned r. The page was a before the call, and is b after it.
-- written: if r is Ok, the tokens of v were written
-- printable: if r is Ok, v is printable
-- refused: if r is an error other than Memory, v isn't printable
pub record Written {X A : Type 0} {g : Production A} (p : Printing g) (v : A) (r : Result X Refused)
    (a b : Page)
    : Type 0 where
  pub written : OnOk r (Writes (p.spell v) a b)
  pub printable : OnOk r (p.printable v ≡ true)
  pub refused : IfErr r (λ e. e ≢ Memory → p.printable v ≡ false)

-- the printing, if the written tokens spell the value before any rest
abbrev pub printing_of : {A : Type 0} {g : Production A} (spell : A → List Token)
    (printable : A → Bool) → ((v : A) → printable v ≡ true → WellFormed (spell v))
    → ((v : A) → printable v ≡ true → (r : List Token) → g.spells v (spell v) r)
    → OnlyPrintable g printable → Printing g
printing_of spell printable well_formed here only = record {
  spell = spell;
  printable = printable;
  well_formed = well_formed;
  spells = λ v h. here v h [];
  only = only.holds;
}

-- the printing, if the written tokens spell the value before the empty rest
abbrev pub printing_at_end : {A : Type 0} {g : Production A} (spell : A → List Token)
    (printable : A → Bool) → ((v : A) → printable v ≡ true → WellFormed (spell v))
    → ((v : A) → printable v ≡ true → g.spells v (spell v) []) → OnlyPrintable g printable
    → Printing g
printing_at_end spell printable well_formed here only = record {
  spell = spell;
  printable = printable;
  well_formed = well_formed;
  spells = here;
  only = only.holds;
}

-- the printing of a form, if the empty rest is in `follows`
abbrev pub printing_by : {A : Type 0} {g : Production A} (form : Form A) → Prints form g
    → ((v : A) → form.printable v ≡ true → form.ready v ≡ true) → form.balanced ≡ true
    → form.follows [] ≡ true → Printing g
printing_by {A = A} form p w b f = record {
  spell = form.spell;
  printable = form.printable;
  well_formed = λ v h. subst (λ (k : Bool). Nests k (form.spell v)) b (p.nests v (w v h));
  spells = λ v h. p.here v [] (w v h) f;
  only = λ v c r a s. (let x = p.only v c r a s in
      subst (λ (w : A). form.printable w ≡ true) x.1 x.2);
}

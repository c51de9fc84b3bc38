-- The facts about a form and a production: the production reads the written tokens as the same
-- value. The combinators of forms keep these facts.
use Rattle.std.specs.Prelude.{flat_map, ◌≡◌, Bool, true, false, List, ◌∷◌, ◌++◌, Result, OnOk, IfErr, ◌≢◌}
use Rattle.wat_types.specs.Prelude.{Token, RParen, Production, in_parens}
use Rattle.wat_print.specs.Form.{Form, Test}
use Rattle.wat_print.specs.Layout.{Writes}
use Rattle.wat_print.specs.Parts.{each}
use Rattle.wat_print.specs.Text.{Page, put}
use Rattle.wat_print.specs.WellFormed.{WellFormed, is_given}
use Rattle.wat_print.specs.declared.fault.Refused.{Refused}
use Rattle.wat_print.specs.declared.fault.Refused.TheVariants.{Memory}

-- the test passes on the rest, if a form may write no token before it
abbrev pub Passes : Bool → Test → List Token → Type 0
Passes true test r = test r ≡ true
Passes false test r = Unit {0}

-- the tokens after a `(`: well-formed tokens, the `)`, and further well-formed tokens
abbrev pub Closes : List Token → Type 0
Closes x = (a : List Token) × (r : List Token) × (x ≡ a ++ (RParen ∷ r)) × WellFormed a
    × WellFormed r

-- If the flag is true, the tokens are well formed. If the flag is false, the tokens can be written
-- inside a group: for each x, if `Closes x` holds, `Closes (ts ++ x)` holds.
abbrev pub Nests : Bool → List Token → Type 0
Nests true ts = WellFormed ts
Nests false ts = (x : List Token) → Closes x → Closes (ts ++ x)

-- The production g reads the tokens that the form writes for a value as the view of this value.
-- N: how the written tokens nest. The flag is `balanced` of the form.
-- front: if the condition `Fronts` holds, the test passes on the written tokens and the rest
-- here: before each rest in `follows`, the written tokens spell the view of the value
-- only: each value that tokens of a text spell is the view of a printable value
pub record UnparsesAs (N : Bool → List Token → Type 0) {A B : Type 0} (form : Form A) (view : A → B)
    (g : Production B)
    : Type 0 where
  pub nests : (a : A) → form.ready a ≡ true → N form.balanced (form.spell a)
  pub front : (rest test : Test) → form.Fronts rest test → (a : A) (r : List Token)
      → form.ready a ≡ true → rest r ≡ true → Passes form.empty test r
      → test (form.spell a ++ r) ≡ true
  pub here : (a : A) (r : List Token) → form.ready a ≡ true → form.follows r ≡ true
      → g.spells (view a) (form.spell a) r
  pub only : (b : B) (c r : List Token) → each is_given c ≡ true → g.spells b c r
      → (a : A) × (view a ≡ b) × (form.printable a ≡ true)

-- the tokens of the form nest by themselves
abbrev pub Unparses : {A B : Type 0} → Form A → (A → B) → Production B → Type 0
Unparses form view g = UnparsesAs Nests form view g

-- the tokens of the form are well formed in parentheses
abbrev pub Inside : {A B : Type 0} → Form A → (A → B) → Production B → Type 0
Inside form view g = UnparsesAs (λ b ts. WellFormed (in_parens ts)) form view g

-- the same, if the view of a value is the value itself
abbrev pub Prints : {A : Type 0} → Form A → Production A → Type 0
Prints form g = Unparses form (λ v. v) g

-- F holds, and the part always writes a token: the flag is its `empty`
abbrev pub Must : Bool → Type 0 → Type 0
Must true F = ⊥
Must false F = F

-- ---- the contract of a call that writes by a form

-- A call that writes v returned r. The page was a before the call, and is b after it.
-- written: if r is Ok, b is a and the tokens of v
-- printable: if r is Ok, v is printable
-- refused: if r is an error other than Memory, v isn't printable
pub record Printed {X A : Type 0} (form : Form A) (v : A) (r : Result X Refused) (a b : Page)
    : Type 0 where
  pub written : OnOk r (b ≡ put a (form.spell v))
  pub printable : OnOk r (form.printable v ≡ true)
  pub refused : IfErr r (λ e. e ≢ Memory → form.printable v ≡ false)

-- The values ws are left to write, of the values vs. The page was a at the start, and is b now.
pub record Left {A : Type 0} (form : Form A) (ws vs : List A) (a b : Page) : Type 0 where
  pub written : put b (flat_map form.spell ws) ≡ put a (flat_map form.spell vs)
  pub printable : each form.printable ws ≡ each form.printable vs

-- The same as `Printed`, but the call may break lines.
pub record PrintedLines {X A : Type 0} (form : Form A) (v : A) (r : Result X Refused) (a b : Page)
    : Type 0 where
  pub written : OnOk r (Writes (form.spell v) a b)
  pub printable : OnOk r (form.printable v ≡ true)
  pub refused : IfErr r (λ e. e ≢ Memory → form.printable v ≡ false)

-- How parts are written: words, groups, lists and optional parts.
use Rattle.std.specs.Prelude.{◌≡◌, ℕ, Bool, true, ◌&&◌, if◌then◌else◌, List, [], ◌∷◌, Option, Some, None, map, flat_map}
use Rattle.wat_types.specs.Prelude.{Token, Keyword, in_parens}
use Rattle.wat_print.specs.Layout.{Writes}
use Rattle.wat_print.specs.Text.{Page, put}

-- ( word .. )
abbrev pub grouped : List ℕ → List Token → List Token
grouped w ts = in_parens (Keyword w ∷ ts)

-- the word if the flag is true
abbrev pub spell_flag : List ℕ → Bool → List Token
spell_flag w b = if b then Keyword w ∷ [] else []

-- no token if there is no value
abbrev pub spell_option : {A : Type 0} → (A → List Token) → Option A → List Token
spell_option spell (Some v) = spell v
spell_option spell None = []

-- the value passes the test, or there is no value
abbrev pub if_some : {A : Type 0} → (A → Bool) → Option A → Bool
if_some test (Some v) = test v
if_some test None = true

-- each value passes the test
abbrev pub each : {A : Type 0} → (A → Bool) → List A → Bool
each test [] = true
each test (v ∷ vs) = test v && each test vs

-- The page was a, and is b after the values are written, one after the other. All of them are
-- printable.
pub record Wrote {X A : Type 0} (view : X → A) (spell : A → List Token) (printable : A → Bool)
    (xs : List X) (a b : Page)
    : Type 0 where
  pub written : b ≡ put a (flat_map spell (map view xs))
  pub fits : each printable (map view xs) ≡ true

-- The same, but lines may be broken.
pub record WroteLines {X A : Type 0} (view : X → A) (spell : A → List Token) (printable : A → Bool)
    (xs : List X) (a b : Page)
    : Type 0 where
  pub written : Writes (flat_map spell (map view xs)) a b
  pub fits : each printable (map view xs) ≡ true

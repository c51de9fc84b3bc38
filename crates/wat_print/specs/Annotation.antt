-- How annotations are written.
use Rattle.std.specs.Prelude.{◌≡◌, ℕ, true, List, ◌∷◌}
use Rattle.wat_lexer.specs.Token.{Token, Annotation}
use Rattle.wat_print.specs.Form.{Form, led_form}

-- @name, then p
abbrev pub annotation_form : {A : Type 0} → List ℕ → Form A → Form A
annotation_form name =
    led_form (λ test. (y : List Token) → test (Annotation name ∷ y) ≡ true) (Annotation name)

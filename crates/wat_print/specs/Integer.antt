-- How integers are written.
use Rattle.std.specs.Prelude.{ℕ, List, [], ◌∷◌}
use Rattle.wat_lexer.specs.Token.{Token, Integer}

-- an integer, by its text
abbrev pub spell_integer : List ℕ → List Token
spell_integer x = Integer x ∷ []

-- Token lists in parentheses, and token lists that spell a value to the last token.
use Rattle.std.specs.Prelude.{List, [], ◌∷◌, ◌++◌}
use Rattle.wat_lexer.specs.Token.{Token, LParen, RParen}
use Rattle.wat_tokens.specs.Production.{Production, Front}

-- `(`, tokens, `)`
abbrev pub in_parens : List Token → List Token
in_parens ts = LParen ∷ (ts ++ RParen ∷ [])

-- the tokens spell the value, to the last token
abbrev pub Spelled : {A : Type 0} → Production A → List Token → A → Type 0
Spelled g ts v = Front g.spells ts (v, [])

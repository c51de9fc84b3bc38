-- The rests at which a list of items ends.
use Rattle.std.specs.Prelude.{◌≡◌, List, [], ◌∷◌, codes}
use Rattle.wat_tokens.specs.Token.{Token, LParen, RParen, Keyword}

-- the rest is empty, or begins with `)` or `( then`
abbrev pub Stops : List Token → Type 0
Stops [] = Unit {0}
Stops (RParen ∷ ts) = Unit {0}
Stops (LParen ∷ Keyword w ∷ ts) = w ≡ codes "then"
Stops _ = ⊥

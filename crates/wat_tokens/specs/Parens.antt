-- How parentheses balance and nest.
use Rattle.std.specs.Prelude.{◌≡◌, ◌+◌, ◌-◌, ℕ, List, [], ◌∷◌, Option, None, max}
use Rattle.wat_lexer.specs.Token.{Token, LParen, RParen}

abbrev pub opens : List Token → ℕ
opens [] = 0
opens (LParen ∷ r) = opens r + 1
opens (_ ∷ r) = opens r

abbrev pub closes : List Token → ℕ
closes [] = 0
closes (RParen ∷ r) = closes r + 1
closes (_ ∷ r) = closes r

-- as many `(` as `)`
abbrev pub AreBalanced : List Token → Type 0
AreBalanced c = opens c ≡ closes c

-- the test holds of neither parenthesis
abbrev pub NoParens : {A : Type 0} → (Token → Option A) → Type 0
NoParens f = (f LParen ≡ None) × (f RParen ≡ None)

-- the greatest excess of `(` over `)` in any prefix
abbrev pub rise : List Token → ℕ
rise [] = 0
rise (LParen ∷ r) = rise r + 1
rise (RParen ∷ r) = rise r - 1
rise (_ ∷ r) = rise r

-- the greatest excess of `(` over `)` in any stretch
abbrev pub nest : List Token → ℕ
nest [] = 0
nest (x ∷ r) = max (rise (x ∷ r)) (nest r)

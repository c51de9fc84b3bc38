-- Laws: how parentheses balance and nest.
use Rattle.std.proofs.Common.{◌≡◌, ◌+◌, ◌≤◌, List, [], ◌∷◌, ◌++◌, arith}
use Rattle.wat_lexer.specs.Token.{Token, LParen, RParen}
use Rattle.wat_tokens.specs.Parens.{opens, closes, AreBalanced, rise, nest}

pub opens-append : (c d : List Token) → opens (c ++ d) ≡ opens c + opens d
opens-append [] d = omega arith
opens-append (LParen ∷ c) d = omega (arith, opens-append c d)
opens-append (_ ∷ c) d = opens-append c d

pub closes-append : (c d : List Token) → closes (c ++ d) ≡ closes c + closes d
closes-append [] d = omega arith
closes-append (RParen ∷ c) d = omega (arith, closes-append c d)
closes-append (_ ∷ c) d = closes-append c d

pub balanced_both : (c d : List Token) → AreBalanced c → AreBalanced d → AreBalanced (c ++ d)
balanced_both c d p q = omega (arith, opens-append c d, closes-append c d)

-- a level stretch between parentheses
pub balanced_within : (d : List Token) → AreBalanced d → AreBalanced (LParen ∷ (d ++ RParen ∷ []))
balanced_within d p = omega (arith, opens-append d (RParen ∷ []), closes-append d (RParen ∷ []))

-- a prefix rises at most as much as the whole
pub rise_front : (c d : List Token) → rise c ≤ rise (c ++ d)
rise_front [] d = omega arith
rise_front (LParen ∷ c) d = omega (arith, rise_front c d)
rise_front (RParen ∷ c) d = omega (arith, rise_front c d)
rise_front (_ ∷ c) d = rise_front c d

-- a stretch nests at most as much as the whole
pub nest_front : (c d : List Token) → nest c ≤ nest (c ++ d)
nest_front [] d = omega arith
nest_front (x ∷ c) d = omega (arith, nest_front c d, rise_front (x ∷ c) d)

pub nest_end : (c d : List Token) → nest d ≤ nest (c ++ d)
nest_end [] d = omega arith
nest_end (x ∷ c) d = omega (arith, nest_end c d)

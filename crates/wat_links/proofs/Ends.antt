-- At the end of a group no `(` is read; elsewhere no `)` is read.
use Rattle.std.specs.Prelude.{◌≡◌, true, false, List, [], ◌∷◌, None, refl}
use Rattle.wat_links.specs.Prelude.{Token, LParen, RParen, as_lparen, ends, one_reads}
use Rattle.wat_tokens.specs.Tests.{as_rparen}

pub opens_none : (t : List Token) → ends t ≡ true → one_reads as_lparen t ≡ None
opens_none [] e = refl
opens_none (LParen ∷ t) e = absurd cc
opens_none (_ ∷ t) e = refl

pub closes_none : (t : List Token) → ends t ≡ false → one_reads as_rparen t ≡ None
closes_none [] e = refl
closes_none (RParen ∷ t) e = absurd cc
closes_none (_ ∷ t) e = refl

-- Relations and readers of groups.
use Rattle.std.specs.Prelude.{◌≡◌, true, if◌then◌else◌, List, [], ◌∷◌, ◌++◌, Some, None}
use Rattle.wat_lexer.specs.Token.{Token, LParen, RParen}
use Rattle.wat_tokens.specs.Tests.{as_lparen, as_rparen, ends}
use Rattle.wat_tokens.specs.Production.{Read, bind, Production}
use Rattle.wat_tokens.specs.PartSpells.{one_reads}

-- ---- ( .. )

module _ {A : Type 0} (g : Production A) where
  abbrev pub paren_spells : A → List Token → List Token → Type 0
  paren_spells v c r =
      (d : List Token) × (c ≡ LParen ∷ (d ++ RParen ∷ [])) × g.spells v d (RParen ∷ r)

  abbrev pub shut : A → List Token → Read A
  shut v t = bind (one_reads as_rparen t) (λ _ r. Some (v, r))

  abbrev pub paren_reads : List Token → Read A
  paren_reads t = bind (one_reads as_lparen t) (λ _ t'. bind (g.reads t') shut)

-- ---- a part that reaches to the end of its group

module _ {A : Type 0} (g : Production A) where
  abbrev pub end_spells : A → List Token → List Token → Type 0
  end_spells v c r = g.spells v c r × (ends r ≡ true)

  abbrev pub if_ends : A → List Token → Read A
  if_ends v r = if ends r then Some (v, r) else None

  abbrev pub end_reads : List Token → Read A
  end_reads t = bind (g.reads t) if_ends

-- ---- ) (

abbrev pub turn_spells : Unit {0} → List Token → List Token → Type 0
turn_spells v c r = c ≡ RParen ∷ LParen ∷ []

abbrev pub turn_reads : List Token → Read (Unit {0})
turn_reads t = bind (one_reads as_rparen t) (λ _ t'. one_reads as_lparen t')

-- Relations and readers of a part that depends on the part before it, and of the empty part.
use Rattle.std.specs.Prelude.{◌≡◌, List, [], ◌++◌, Some}
use Rattle.wat_lexer.specs.Token.{Token}
use Rattle.wat_tokens.specs.Production.{Read, bind, Production}

-- ---- a part, and then a part that depends on its value

module _ {A B : Type 0} (g : Production A) (h : A → Production B) where
  abbrev pub followed_spells : B → List Token → List Token → Type 0
  followed_spells v c r =
      (a : A) × (d : List Token) × (e : List Token) × (c ≡ d ++ e) × g.spells a d (e ++ r)
      × (h a).spells v e r

  abbrev pub followed_reads : List Token → Read B
  followed_reads t = bind (g.reads t) (λ a t'. (h a).reads t')

-- ---- no tokens

module _ {A : Type 0} (a : A) where
  abbrev pub blank_spells : A → List Token → List Token → Type 0
  blank_spells v c r = (c ≡ []) × (v ≡ a)

  abbrev pub blank_reads : List Token → Read A
  blank_reads t = Some (a, t)

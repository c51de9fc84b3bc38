-- Relation and reader of the production that has no value.
use Rattle.std.specs.Prelude.{List, None}
use Rattle.wat_lexer.specs.Token.{Token}
use Rattle.wat_tokens.specs.Production.{Read}

module _ {A : Type 0} where
  abbrev pub none_spells : A → List Token → List Token → Type 0
  none_spells v c r = ⊥

  abbrev pub none_reads : List Token → Read A
  none_reads t = None

-- Laws: floating-point literals, which are not read.
use Rattle.std.specs.Prelude.{◌≡◌, List, ◌++◌, ◌≤◌, length, Some}
use Rattle.wat_lexer.specs.Token.{Token}
use Rattle.wat_tokens.specs.Parens.{AreBalanced}
use Rattle.wat_tokens.specs.Production.{Front}
use Rattle.wat_tokens.specs.Laws.Production.{none_is_not}
use Rattle.wat_tokens.specs.NoneSpells.{none_spells, none_reads}

module _ {A : Type 0} where
  pub none_sound : (t : List Token) (x : A × List Token) → none_reads t ≡ Some x
      → Front none_spells t x
  none_sound t x e = none_is_not x e

  pub none_complete : (v : A) (c r : List Token) → none_spells v c r
      → none_reads (c ++ r) ≡ Some (v, r)
  none_complete v c r s = absurd s

  pub none_takes : (v : A) (c r : List Token) → none_spells v c r → 1 ≤ length c
  none_takes v c r s = absurd s

  pub none_balanced : (v : A) (c r : List Token) → none_spells v c r → AreBalanced c
  none_balanced v c r s = absurd s

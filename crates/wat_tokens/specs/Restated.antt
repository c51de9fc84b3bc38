-- A production with another, equivalent relation.
use Rattle.std.specs.Prelude.{List}
use Rattle.wat_lexer.specs.Token.{Token}
use Rattle.wat_tokens.specs.Production.{Production}

-- g with the relation Spells, which is equivalent to g.spells
abbrev pub restated : {A : Type 0}
    → (g : Production A) (Spells : A → List Token → List Token → Type 0)
    → ((v : A) (c r : List Token) → g.spells v c r → Spells v c r)
    → ((v : A) (c r : List Token) → Spells v c r → g.spells v c r) → Production A
restated g Spells to from = record {
  spells = Spells;
  reads = g.reads;
  least = g.least;
  sound = λ t x e. (let y = g.sound t x e in (y.0, y.1, to x.0 y.0 x.1 y.2));
  complete = λ v c r s. g.complete v c r (from v c r s);
  takes = λ v c r s. g.takes v c r (from v c r s);
  balanced = λ v c r s. g.balanced v c r (from v c r s);
  asks = g.asks;
  moves = λ v c r u a s. to v c u (g.moves v c r u a (from v c r s));
}

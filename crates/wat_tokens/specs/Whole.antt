-- Values that a whole text spells.
use Rattle.std.specs.Prelude.{ℕ, Bool, List, []}
use Rattle.wat_lexer.specs.Prelude.{IsCut, visible_tokens, Placed, tokens_of}
use Rattle.wat_tokens.specs.Production.{Production}

-- The text has a cut, and its visible tokens spell the value, to the last token. The first argument
-- is whether the five standard annotations are known.
abbrev pub TextSpells : {A : Type 0} → Bool → Production A → List ℕ → A → Type 0
TextSpells known g text v =
    (ts : List Placed) × IsCut text ts × g.spells v (visible_tokens known (tokens_of ts)) []

-- Productions with one reading.
use Rattle.std.specs.Prelude.{◌≡◌, List, ◌++◌}
use Rattle.wat_tokens.specs.Prelude.{Token, Production}

-- at most one prefix of a token list spells a value, and it spells one value
abbrev pub HasOneReading : {A : Type 0} → Production A → Type 0
HasOneReading {A} g =
    (v w : A) (c d r s : List Token) → c ++ r ≡ d ++ s → g.spells v c r → g.spells w d s
    → (v ≡ w) × (r ≡ s) × (c ≡ d)

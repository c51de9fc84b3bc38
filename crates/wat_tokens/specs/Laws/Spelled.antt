-- Laws: token lists that spell a value to the last token.
use Rattle.std.specs.Prelude.{◌≡◌, List, [], Some}
use Rattle.wat_tokens.specs.Prelude.{Token, Production, Spelled}

pub spelled_whole : {A : Type 0} (g : Production A) (ts : List Token) (v : A)
    → g.reads ts ≡ Some (v, []) → Spelled g ts v
spelled_whole g ts v e = g.sound ts (v, []) e

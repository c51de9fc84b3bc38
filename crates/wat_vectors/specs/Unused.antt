-- Identifiers that begin with `_`.
use Rattle.std.specs.Prelude.{◌==◌, ℕ, Bool, false, List, codes}
use Rattle.std.specs.List.{starts_with}
use Rattle.wat_core.specs.Kind.{content_where}
use Rattle.wat_core.specs.Test.{Test, at_kind}
use Rattle.wat_core.specs.Token.{Token, Id}

-- a name that begins with `_`
abbrev pub is_unused : List ℕ → Bool
is_unused name = starts_with (λ a b. a == b) name (codes "_")

-- an identifier with such a name
abbrev pub unused_id : Token → Bool
unused_id (Id name) = is_unused name
unused_id _ = false

abbrev pub at_unused : Test
at_unused = at_kind (content_where unused_id)

-- Laws: what follows the front of a word.
use Rattle.std.specs.Prelude.{◌≡◌, ℕ, List, [], ◌∷◌, ◌++◌, Some, refl}
use Rattle.wat_tokens.specs.Kind.{past_front}
use Rattle.wat_lexer.specs.Laws.Bytes.{same_number}

-- the rest follows a front that was put before it
pub past_own_front : (front rest : List ℕ) → past_front front (front ++ rest) ≡ Some rest
unfolding past_front
past_own_front [] rest = refl
past_own_front (b ∷ front) rest = rw (same_number b) (past_own_front front rest)

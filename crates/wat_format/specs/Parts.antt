-- The parts of a text besides spaces.
use Rattle.std.specs.Prelude.{◌≡◌, ℕ, ◌++◌, Bool, true, false, not, List, [], ◌∷◌}
use Rattle.wat_lexer.specs.Prelude.{is_space, Blank, IsToken, Begins, Token, is_open}

-- a token, by its bytes and the token that they spell, or a comment, by its bytes
pub data Part : Type 0 where
  a_token : List ℕ → Token → Part
  a_comment : List ℕ → Part

-- a blank that isn't a space
abbrev pub Comment : List ℕ → List ℕ → Type 0
Comment x rest = Blank x rest × Begins (λ b. not (is_space b)) x

-- The text is these parts, with spaces before, between and after them. The flag is whether a `(` is
-- directly before the text.
pub data HasParts : Bool → List ℕ → List Part → Type 0 where
  done : (behind : Bool) → HasParts behind [] []
  space : (behind : Bool) (b : ℕ) (rest : List ℕ) (ps : List Part) → is_space b ≡ true
      → HasParts false rest ps → HasParts behind (b ∷ rest) ps
  comment : (behind : Bool) (text x rest : List ℕ) (ps : List Part) → text ≡ x ++ rest
      → Comment x rest → HasParts false rest ps → HasParts behind text (a_comment x ∷ ps)
  token : (behind : Bool) (text x rest : List ℕ) (t : Token) (ps : List Part) → text ≡ x ++ rest
      → IsToken behind x rest t → HasParts (is_open t) rest ps
      → HasParts behind text (a_token x t ∷ ps)

-- Both texts have the same tokens and comments, byte for byte and in the same order: the texts
-- differ only in spaces.
abbrev pub SameButSpaces : List ℕ → List ℕ → Type 0
SameButSpaces text answer = (ps : List Part) × HasParts false text ps × HasParts false answer ps

abbrev pub toks_in : List Part → List Token
toks_in [] = []
toks_in (a_token x t ∷ ps) = t ∷ toks_in ps
toks_in (a_comment x ∷ ps) = toks_in ps

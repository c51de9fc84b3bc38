-- Tokens as contracts see them.
use Rattle.std.specs.Prelude.{ℕ, Bool, true, false, List, [], ◌∷◌, ◌||◌, map}
use Rattle.wat_lexer.specs.declared.lexeme.Skips.{Skips}

-- A token without its offset. Identifiers and annotations have their name, strings their content,
-- and the others except parens their text.
pub data Token : Type 0 where
  LParen : Token
  RParen : Token
  Keyword : List ℕ → Token
  Id : List ℕ → Token
  Annotation : List ℕ → Token
  Integer : List ℕ → Token
  String : List ℕ → Token
  Reserved : List ℕ → Token

-- a token and its offset in bytes
pub record Placed : Type 0 where
  pub token : Token
  pub offset : ℕ

-- A token, its offset in bytes, and its skips. For the annotation of a group, the skips are the
-- number of tokens that lookups skip from the `(` before the annotation on.
pub record Entry : Type 0 where
  pub token : Token
  pub offset : ℕ
  pub skips : Skips

abbrev pub tokens_of : List Placed → List Token
tokens_of ps = map (λ p. p.token) ps

abbrev pub is_open : Token → Bool
is_open LParen = true
is_open _ = false

abbrev pub is_close : Token → Bool
is_close RParen = true
is_close _ = false

abbrev pub is_annotation : Token → Bool
is_annotation (Annotation n) = true
is_annotation _ = false

-- a token of the list is an annotation
abbrev pub has_annotation : List Token → Bool
has_annotation [] = false
has_annotation (x ∷ r) = is_annotation x || has_annotation r

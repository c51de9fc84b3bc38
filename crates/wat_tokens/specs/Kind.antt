-- Kinds of tokens, as data.
use Rattle.std.specs.Prelude.{ℕ, Bool, true, false, ◌==◌, if◌then◌else◌, List, [], ◌∷◌, Option, Some, None, is_some}
use Rattle.wat_lexer.specs.Prelude.{bytes_eq, Token, LParen, RParen, Keyword, Id, Annotation, Integer, String}

-- the text after the prefix, if it begins with the prefix
unfoldable pub past_front : List ℕ → List ℕ → Option (List ℕ)
past_front [] text = Some text
past_front (b ∷ bs) [] = None
past_front (b ∷ bs) (c ∷ text) = if b == c then past_front bs text else None

pub data Kind : Type 0 where
  a_lparen : Kind
  a_rparen : Kind
  an_id : Kind
  an_integer : Kind
  a_string : Kind
  a_word : List ℕ → Kind
  -- a keyword that begins with the text
  word_from : List ℕ → Kind
  an_annotation : List ℕ → Kind
  -- no parenthesis, and the test of the token holds
  content_where : (Token → Bool) → Kind

-- the token is of the kind
abbrev pub fits : Kind → Token → Bool
fits a_lparen LParen = true
fits a_rparen RParen = true
fits an_id (Id n) = true
fits an_integer (Integer text) = true
fits a_string (String s) = true
fits (a_word w) (Keyword k) = bytes_eq k w
fits (word_from front) (Keyword k) = is_some (past_front front k)
fits (an_annotation n) (Annotation a) = bytes_eq a n
fits (content_where f) LParen = false
fits (content_where f) RParen = false
fits (content_where f) x = f x
fits _ _ = false

-- the next token is of the kind
abbrev pub next_is : Kind → List Token → Bool
next_is k [] = false
next_is k (x ∷ r) = fits k x

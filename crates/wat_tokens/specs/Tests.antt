-- Tests of one token, and of the next tokens.
use Rattle.std.specs.Prelude.{ℕ, Bool, true, false, not, ◌&&◌, if◌then◌else◌, List, [], ◌∷◌, Option, Some, None}
use Rattle.wat_lexer.specs.Prelude.{bytes_eq, Token, LParen, RParen, Keyword, Id, Annotation, Integer, String}
use Rattle.wat_tokens.specs.Kind.{a_lparen, an_id, an_integer, a_string, a_word, an_annotation, next_is}

-- ---- one token

abbrev pub as_any : Token → Option (Unit {0})
as_any x = Some tt

abbrev pub as_lparen : Token → Option (Unit {0})
as_lparen LParen = Some tt
as_lparen _ = None

abbrev pub as_rparen : Token → Option (Unit {0})
as_rparen RParen = Some tt
as_rparen _ = None

abbrev pub as_keyword : Token → Option (List ℕ)
as_keyword (Keyword w) = Some w
as_keyword _ = None

-- the name, without its `$`
abbrev pub as_id : Token → Option (List ℕ)
as_id (Id n) = Some n
as_id _ = None

-- the name, without its `@`
abbrev pub as_annotation : Token → Option (List ℕ)
as_annotation (Annotation n) = Some n
as_annotation _ = None

-- the text, with its sign and its base
abbrev pub as_integer : Token → Option (List ℕ)
as_integer (Integer text) = Some text
as_integer _ = None

-- the content
abbrev pub as_string : Token → Option (List ℕ)
as_string (String s) = Some s
as_string _ = None

-- the given word only
abbrev pub word_only : List ℕ → Token → Option (Unit {0})
word_only w (Keyword k) = if bytes_eq k w then Some tt else None
word_only w _ = None

-- the annotation with the given name only
abbrev pub annotation_only : List ℕ → Token → Option (Unit {0})
annotation_only name (Annotation n) = if bytes_eq n name then Some tt else None
annotation_only name _ = None

-- the value that a table gives for a word
abbrev pub look_up : {A : Type 0} → List (List ℕ × A) → List ℕ → Option A
look_up [] w = None
look_up (e ∷ es) w = if bytes_eq w e.0 then Some e.1 else look_up es w

-- one of the words of a table
abbrev pub word_in : {A : Type 0} → List (List ℕ × A) → Token → Option A
word_in table (Keyword w) = look_up table w
word_in table _ = None

-- ---- the next tokens

-- a test of the tokens after the next token; false at the end
abbrev pub second : (List Token → Bool) → List Token → Bool
second test [] = false
second test (x ∷ r) = test r

-- a `(`
abbrev pub begins_lparen : List Token → Bool
begins_lparen t = next_is a_lparen t

-- the word
abbrev pub begins_word : List ℕ → List Token → Bool
begins_word w t = next_is (a_word w) t

-- a group that begins with the word
abbrev pub begins_group : List ℕ → List Token → Bool
begins_group w t = begins_lparen t && second (begins_word w) t

-- a group that begins with the annotation of the name
abbrev pub begins_annotation : List ℕ → List Token → Bool
begins_annotation name t = begins_lparen t && second (next_is (an_annotation name)) t

abbrev pub begins_id : List Token → Bool
begins_id t = next_is an_id t

abbrev pub begins_integer : List Token → Bool
begins_integer t = next_is an_integer t

abbrev pub begins_string : List Token → Bool
begins_string t = next_is a_string t

-- no token
abbrev pub none_left : List Token → Bool
none_left [] = true
none_left (_ ∷ r) = false

-- no token, or a `)`
abbrev pub ends : List Token → Bool
ends [] = true
ends (RParen ∷ r) = true
ends (_ ∷ r) = false

-- the group goes on
abbrev pub more : List Token → Bool
more t = not (ends t)

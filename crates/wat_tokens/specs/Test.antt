-- Tests of the next tokens, as data: what they ask, and how many tokens they look at.
use Rattle.std.specs.Prelude.{◌≡◌, ℕ, ◌+◌, max, Bool, true, false, not, ◌&&◌, ◌||◌, refl, List, [], ◌∷◌, is_some}
use Rattle.wat_lexer.specs.Prelude.{both_true, Token, LParen, RParen}
use Rattle.wat_tokens.specs.Kind.{Kind, a_lparen, an_id, an_integer, a_string, a_word, an_annotation, content_where, fits, next_is}
use Rattle.wat_tokens.specs.Tests.{ends, second, word_in}

-- ---- questions

pub data Question : Type 0 where
  -- the next token is of the kind
  starts : Kind → Question
  -- no token, or a `)`
  ended : Question
  -- the first of the next tokens, and the second of the tokens after the next token
  after : Question → Question → Question
  either : Question → Question → Question
  both : Question → Question → Question
  opposite : Question → Question
  always : Bool → Question

abbrev pub answer : Question → List Token → Bool
answer (starts k) t = next_is k t
answer ended t = ends t
answer (after a b) t = answer a t && second (λ r. answer b r) t
answer (either a b) t = answer a t || answer b t
answer (both a b) t = answer a t && answer b t
answer (opposite a) t = not (answer a t)
answer (always b) t = b

-- ---- what an answer depends on

-- at most so many tokens
abbrev pub sight : Question → ℕ
sight (starts k) = 1
sight ended = 1
sight (after a b) = max (sight a) (1 + sight b)
sight (either a b) = max (sight a) (sight b)
sight (both a b) = max (sight a) (sight b)
sight (opposite a) = sight a
sight (always b) = 0

-- no parenthesis
abbrev pub is_content : Kind → Bool
is_content k = not (fits k LParen) && not (fits k RParen)

-- the answer is the same at no token, at a `(` and at a `)`
abbrev pub is_mute : Question → Bool
is_mute (starts k) = is_content k
is_mute (either a b) = is_mute a && is_mute b
is_mute (both a b) = is_mute a && is_mute b
is_mute (opposite a) = is_mute a
is_mute (always b) = true
is_mute _ = false

-- the answer at a `)` is no
abbrev pub denies_end : Question → Bool
denies_end (starts k) = not (fits k RParen)
denies_end (after a b) = denies_end a
denies_end (either a b) = denies_end a && denies_end b
denies_end (both a b) = denies_end a
denies_end _ = false

-- of the tokens after a `)` nothing is asked, but what neither parenthesis changes
abbrev pub is_calm : Question → Bool
is_calm (after a b) = is_calm a && ((denies_end a || is_mute b) && is_calm b)
is_calm (either a b) = is_calm a && is_calm b
is_calm (both a b) = is_calm a && is_calm b
is_calm (opposite a) = is_calm a
is_calm _ = true

-- ---- tests

-- a question whose answer is the same whether nothing, `(` or `)` follows the end of a group
pub record Test : Type 0 where
  pub asks : Question
  pub calm : is_calm asks ≡ true

abbrev pub run : Test → List Token → Bool
run t r = answer t.asks r

abbrev pub test_of : (q : Question) → is_calm q ≡ true → Test
test_of q e = record { asks = q; calm = e }

abbrev pub either_test : Test → Test → Test
either_test a b = test_of (either a.asks b.asks) (both_true a.calm b.calm)

-- the test, if b holds
abbrev pub if_test : Bool → Test → Test
if_test b a = test_of (both (always b) a.asks) a.calm

abbrev pub opposite_test : Test → Test
opposite_test a = test_of (opposite a.asks) a.calm

-- the next token is of the kind
abbrev pub at_kind : Kind → Test
at_kind k = test_of (starts k) refl

abbrev pub at_lparen : Test
at_lparen = at_kind a_lparen

abbrev pub at_id : Test
at_id = at_kind an_id

abbrev pub at_integer : Test
at_integer = at_kind an_integer

abbrev pub at_string : Test
at_string = at_kind a_string

abbrev pub at_word : List ℕ → Test
at_word w = at_kind (a_word w)

-- one of the words of a table
abbrev pub at_listed : {A : Type 0} → List (List ℕ × A) → Test
at_listed table = at_kind (content_where (λ x. is_some (word_in table x)))

-- tokens of the kinds in this order, and the answer of the question at the tokens after them
abbrev pub in_order : List Kind → Question → Question
in_order [] a = a
in_order (k ∷ ks) a = after (starts k) (in_order ks a)

-- a group that begins with the word
abbrev pub at_group : List ℕ → Test
at_group w = test_of (in_order (a_lparen ∷ []) (starts (a_word w))) refl

-- a group that begins with the annotation of the name
abbrev pub at_annotation : List ℕ → Test
at_annotation n = test_of (in_order (a_lparen ∷ []) (starts (an_annotation n))) refl

-- the group or the text ends
abbrev pub at_ends : Test
at_ends = test_of ended refl

-- the group goes on
abbrev pub at_more : Test
at_more = opposite_test at_ends

-- the tokens after the next token, for any next token
abbrev pub behind : Question → Question
behind a = after (always true) a

-- the second token is the word, for any first token
abbrev pub second_word : List ℕ → Test
second_word w = test_of (behind (starts (a_word w))) refl

-- The text of tokens.
use Rattle.std.specs.Prelude.{ℕ, ◌/◌, ◌%◌, Bool, true, false, ◌&&◌, ◌||◌, if◌then◌else◌, nat_lt, List, [], ◌∷◌, ◌++◌}
use Rattle.std.specs.Str.{is_utf8}
use Rattle.wat_types.specs.Prelude.{digit_char, is_idchar, is_raw, Token, LParen, RParen, Keyword, Id, Annotation, Integer, String, Reserved, is_open, is_close}

-- ---- one token

-- A byte in a string: the byte itself if it may occur unescaped, and the string is UTF-8 or the
-- byte is ASCII. Otherwise `\` and its two hex digits.
abbrev pub escape : Bool → ℕ → List ℕ
escape utf8 b =
    if is_raw b && (utf8 || nat_lt b 128) then b ∷ []
    else 92 ∷ digit_char (b / 16) ∷ digit_char (b % 16) ∷ []

-- the content of a string, and the closing quote; the flag is true if the string is UTF-8
abbrev pub quoted_as : Bool → List ℕ → List ℕ
quoted_as utf8 [] = 34 ∷ []
quoted_as utf8 (b ∷ s) = escape utf8 b ++ quoted_as utf8 s

-- The content of a string, and the closing quote. If the whole string is UTF-8, its non-ASCII
-- characters stay. Otherwise each non-ASCII byte is escaped as two hex digits.
abbrev pub quoted : List ℕ → List ℕ
quoted s = quoted_as (is_utf8 s) s

-- each byte passes the test
abbrev pub all_are : (ℕ → Bool) → List ℕ → Bool
all_are test [] = true
all_are test (b ∷ r) = test b && all_are test r

-- a name: unquoted if all its bytes are idchars, otherwise a string
abbrev pub name_text : List ℕ → List ℕ
name_text n = if all_are is_idchar n then n else 34 ∷ quoted n

abbrev pub token_text : Token → List ℕ
token_text LParen = 40 ∷ []
token_text RParen = 41 ∷ []
token_text (Keyword k) = k
token_text (Id n) = 36 ∷ name_text n
token_text (Annotation n) = 64 ∷ name_text n
token_text (Integer k) = k
token_text (String s) = 34 ∷ quoted s
token_text (Reserved k) = k

-- ---- tokens, one after the other

-- An output so far.
-- tight: true if the next token follows without a blank: at the start, and after a `(`
-- lines: true if lines may be broken
pub record Page : Type 0 where
  pub bytes : List ℕ
  pub tight : Bool
  pub lines : Bool

abbrev pub blank_page : Bool → Page
blank_page lines = record { bytes = []; tight = true; lines = lines }

-- the space before a token; no space at the start, after `(` and before `)`
abbrev pub gap : Bool → Token → List ℕ
gap tight t = if tight || is_close t then [] else 32 ∷ []

-- appends a token
abbrev pub put_one : Page → Token → Page
put_one p t =
    record {
      bytes = p.bytes ++ (gap p.tight t ++ token_text t);
      tight = is_open t;
      lines = p.lines;
    }

-- appends tokens
abbrev pub put : Page → List Token → Page
put p [] = p
put p (t ∷ ts) = put (put_one p t) ts

-- the text of tokens on one line
abbrev pub printed_text : List Token → List ℕ
printed_text ts = (put (blank_page false) ts).bytes

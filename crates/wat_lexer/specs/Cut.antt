-- How a text is cut into tokens.
use Rattle.std.specs.Prelude.{◌≡◌, ℕ, ◌+◌, ◌-◌, ◌*◌, ◌<◌, Bool, true, false, List, [], ◌∷◌, ◌++◌, length, Option, Some, None, ◌⊎◌, ◌==◌, ◌&&◌, not, nat_lt, nat_le, if◌then◌else◌, encode_utf8, slice_get, drop, codes}
use Prim.Native.Char.{code}
use Rattle.std.specs.List.{AllByRecursion}
use Rattle.std.specs.Char.{digit_value, IsScalar}
use Rattle.std.specs.Str.{IsUtf8}
use Rattle.wat_lexer.specs.Bytes.{is_space, is_line_end, is_idchar, between}
use Rattle.wat_lexer.specs.Number.{number, is_integer}
use Rattle.wat_lexer.specs.Sight.{behind_group}
use Rattle.wat_lexer.specs.Token.{Token, LParen, RParen, Keyword, Id, Annotation, Integer, String, Reserved, Placed, tokens_of, is_open}
use Rattle.wat_lexer.specs.declared.fault.Fault.{Fault}
use Rattle.wat_lexer.specs.declared.fault.Fault.TheVariants.{LexChar, LexString, LexComment, LexAnnotation}

-- STRINGS

-- a raw byte of a string: a byte of any character from U+0020 on, except U+007F, `"` and `\`
abbrev pub is_raw : ℕ → Bool
is_raw b = nat_le 0x20 b && (not (b == 0x7f) && (not (b == code "\"") && not (b == code "\\")))

-- the byte that a backslash and the character spell
abbrev pub short_escape : ℕ → Option ℕ
short_escape c =
    if c == code "t" then Some (code "\t") else (if c == code "n" then Some (code "\n")
    else (if c == code "r" then Some (code "\r") else (if c == code "\"" then Some (code "\"")
    else (if c == code "'" then Some (code "'")
    else (if c == code "\\" then Some (code "\\") else None)))))

abbrev pub is_hex : ℕ → Bool
is_hex c = nat_lt (digit_value c) 16

-- one element of a string, and the bytes that it spells
pub data Element : List ℕ → List ℕ → Type 0 where
  raw_byte : (b : ℕ) → is_raw b ≡ true → Element (b ∷ []) (b ∷ [])
  short_form : (c v : ℕ) → short_escape c ≡ Some v → Element (code "\\" ∷ c ∷ []) (v ∷ [])
  hex_byte : (h l : ℕ) → is_hex h ≡ true → is_hex l ≡ true
      → Element (code "\\" ∷ h ∷ l ∷ []) ((digit_value h * 16 + digit_value l) ∷ [])
  code_point : (x : List ℕ) (n : ℕ) → number 16 x ≡ Some n → IsScalar n
      → Element (codes "\\u{" ++ (x ++ codes "}")) (encode_utf8 n)

-- the bytes after the opening quote, with the closing quote, and the content of the string
pub data Str : List ℕ → List ℕ → Type 0 where
  close : Str (codes "\"") []
  more : (x v y c : List ℕ) → Element x v → Str y c → Str (x ++ y) (v ++ c)

abbrev pub IsString : List ℕ → List ℕ → Type 0
IsString x c = (y : List ℕ) × (x ≡ code "\"" ∷ y) × Str y c

-- BLANKS

-- the text begins with the byte
abbrev pub begins : ℕ → List ℕ → Bool
begins b [] = false
begins b (c ∷ _) = c == b

-- After the `(;` of a comment in which depth more comments are open, up to the `;)` that closes it.
pub data Inside : ℕ → List ℕ → Type 0 where
  last : Inside 0 (codes ";)")
  closed : (depth : ℕ) (x : List ℕ) → Inside depth x → Inside (depth + 1) (codes ";)" ++ x)
  opened : (depth : ℕ) (x : List ℕ) → Inside (depth + 1) x → Inside depth (codes "(;" ++ x)
  other : (depth b c : ℕ) (x : List ℕ) → (b == code "(") && (c == code ";") ≡ false
      → (b == code ";") && (c == code ")") ≡ false → Inside depth (c ∷ x) → Inside depth (b ∷ c ∷ x)

-- the next byte, if any, passes the test
abbrev pub Begins : (ℕ → Bool) → List ℕ → Type 0
Begins test [] = Unit {0}
Begins test (b ∷ _) = test b ≡ true

-- a blank that the rest can follow
pub data Blank : List ℕ → List ℕ → Type 0 where
  space : (b : ℕ) (rest : List ℕ) → is_space b ≡ true → Blank (b ∷ []) rest
  line : (x rest : List ℕ) → AllByRecursion (λ b. is_line_end b ≡ false) x → Begins is_line_end rest
      → Blank (codes ";;" ++ x) rest
  block : (x rest : List ℕ) → Inside 0 x → Blank (codes "(;" ++ x) rest

-- TOKENS

-- idchars and strings with no blank between
pub data Run : List ℕ → Type 0 where
  none : Run []
  idchar : (b : ℕ) (x : List ℕ) → is_idchar b ≡ true → Run x → Run (b ∷ x)
  string : (y c x : List ℕ) → Str y c → Run x → Run (code "\"" ∷ (y ++ x))

abbrev pub in_no_run : ℕ → Bool
in_no_run b = not (is_idchar b) && not (b == code "\"")

abbrev pub Idchars : List ℕ → Type 0
Idchars x = AllByRecursion (λ b. is_idchar b ≡ true) x

-- `$` or `@` with idchars or with a string that is UTF-8; the name isn't empty
abbrev pub Name : ℕ → List ℕ → List ℕ → Type 0
Name mark x n =
    (y : List ℕ) × (x ≡ mark ∷ y) × (0 < length n)
    × (((y ≡ n) × Idchars n) ⊎ (IsString y n × IsUtf8 n))

-- The class and the content of a run. The flag is true if a `(` is directly before the run.
abbrev pub Classed : Bool → List ℕ → Token → Type 0
Classed behind x (Keyword k) =
    (x ≡ k) × Idchars x × (b : ℕ) × (y : List ℕ) × (x ≡ b ∷ y)
    × (between (code "a") (code "z") b ≡ true)
Classed behind x (Id n) = Name (code "$") x n
Classed behind x (Annotation n) = (behind ≡ true) × Name (code "@") x n
Classed behind x (Integer k) = (x ≡ k) × Idchars x × (is_integer x ≡ true)
Classed behind x (String c) = IsString x c
Classed behind x LParen = ⊥
Classed behind x RParen = ⊥
Classed behind x (Reserved k) = ⊥

-- a token that the rest can follow
abbrev pub IsToken : Bool → List ℕ → List ℕ → Token → Type 0
IsToken behind x rest LParen = (x ≡ codes "(") × Begins (λ b. not (b == code ";")) rest
IsToken behind x rest RParen = x ≡ codes ")"
IsToken behind x rest (Reserved k) =
    (x ≡ k) × (0 < length x) × Run x × Begins in_no_run rest × ((t : Token) → Classed behind x t
    → ⊥)
IsToken behind x rest t = Run x × Begins in_no_run rest × Classed behind x t

-- TEXTS

-- the text is cut into the tokens with their offsets; n is the length of the whole text, and this
-- text is a suffix of it; the flag is true if a `(` is directly before this text
pub data Cuts : ℕ → Bool → List ℕ → List Placed → Type 0 where
  done : (n : ℕ) (behind : Bool) → Cuts n behind [] []
  blank : (n : ℕ) (behind : Bool) (text x rest : List ℕ) (ts : List Placed) → text ≡ x ++ rest
      → Blank x rest → Cuts n false rest ts → Cuts n behind text ts
  token : (n : ℕ) (behind : Bool) (text x rest : List ℕ) (t : Token) (ts : List Placed)
      → text ≡ x ++ rest → IsToken behind x rest t → Cuts n (is_open t) rest ts
      → Cuts n behind text (record { token = t; offset = n - length text } ∷ ts)

-- GROUPS

-- a group that begins with an annotation is at the index, and isn't closed
abbrev pub Unclosed : List Token → ℕ → Type 0
Unclosed ts i =
    (n : List ℕ) × (rest : List Token) × (drop i ts ≡ LParen ∷ (Annotation n ∷ rest))
    × (behind_group 0 rest ≡ None)

-- each group that begins with an annotation is closed
abbrev pub Closed : List Token → Type 0
Closed ts = (i : ℕ) → Unclosed ts i → ⊥

-- The tokens with their offsets are the text's cut.
abbrev pub IsCut : List ℕ → List Placed → Type 0
IsCut text ts = Cuts (length text) false text ts × Closed (tokens_of ts)

-- FAULTS

-- No blank and no token begins the text. The fault, and the text from the fault's offset on. The
-- offset is that of a character that begins no token and no blank, of the `(` of a comment that
-- isn't closed, or of the opening quote of an invalid string in a run.
pub data Broken : List ℕ → Fault → List ℕ → Type 0 where
  wrong_char : (b : ℕ) (rest : List ℕ) → is_space b ≡ false → in_no_run b ≡ true
      → (b == code "(") ≡ false → (b == code ")") ≡ false
      → (b == code ";") && begins (code ";") rest ≡ false
      → Broken (b ∷ rest) LexChar (b ∷ rest)
  open_comment : (rest : List ℕ) → ((x more : List ℕ) → rest ≡ x ++ more → Inside 0 x → ⊥)
      → Broken (codes "(;" ++ rest) LexComment (codes "(;" ++ rest)
  wrong_string : (x rest : List ℕ) → Run x → ((y c more : List ℕ) → rest ≡ y ++ more → Str y c → ⊥)
      → Broken (x ++ code "\"" ∷ rest) LexString (code "\"" ∷ rest)

-- after blanks and tokens, a place where no blank and no token begins
pub data Fails : Bool → List ℕ → Fault → List ℕ → Type 0 where
  at_once : (behind : Bool) (text : List ℕ) (f : Fault) (at : List ℕ) → Broken text f at
      → Fails behind text f at
  behind_blank : (behind : Bool) (text x rest : List ℕ) (f : Fault) (at : List ℕ) → text ≡ x ++ rest
      → Blank x rest → Fails false rest f at → Fails behind text f at
  behind_token : (behind : Bool) (text x rest : List ℕ) (t : Token) (f : Fault) (at : List ℕ)
      → text ≡ x ++ rest → IsToken behind x rest t → Fails (is_open t) rest f at
      → Fails behind text f at

-- the number is the offset of the first group that begins with an annotation and isn't closed
abbrev pub FirstUnclosed : List Placed → ℕ → Type 0
FirstUnclosed ts offset =
    (i : ℕ) × (t : Placed) × (slice_get ts i ≡ Some t) × (offset ≡ t.offset)
    × Unclosed (tokens_of ts) i × ((j : ℕ) → j < i → Unclosed (tokens_of ts) j → ⊥)

-- The text's first fault from the left, and its offset. A group that isn't closed is the first
-- fault only if there is no other fault.
pub data FirstFault : List ℕ → Fault → ℕ → Type 0 where
  cutting : (text : List ℕ) (f : Fault) (at : List ℕ) → Fails false text f at
      → FirstFault text f (length text - length at)
  closing : (text : List ℕ) (ts : List Placed) (offset : ℕ) → Cuts (length text) false text ts
      → FirstUnclosed ts offset → FirstFault text LexAnnotation offset

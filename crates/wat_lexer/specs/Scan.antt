-- The ends of comments, strings and runs, and the blank or token in front of a text.
use Rattle.std.specs.Prelude.{◌≡◌, ◌≤◌, ◌<◌, drop, slice_range, Result, Ok, Err, ℕ, ◌+◌, ◌-◌, ◌*◌, Bool, true, false, List, [], ◌∷◌, ◌++◌, take, length, Option, Some, None, option_map, ◌==◌, ◌&&◌, nat_lt, if◌then◌else◌, encode_utf8}
use Prim.Native.Char.{code}
use Rattle.std.specs.Char.{digit_value}
use Rattle.std.specs.Str.{is_utf8}
use lib.Utf8.{scalar}
use Rattle.wat_lexer.specs.Bytes.{is_idchar, between, is_space, is_line_end}
use Rattle.wat_lexer.specs.Number.{is_integer}
use Rattle.wat_lexer.specs.Cut.{is_raw, is_hex, short_escape, begins}
use Rattle.wat_lexer.specs.Token.{Token, LParen, RParen, Keyword, Id, Annotation, Integer, String, Reserved}
use Rattle.wat_lexer.specs.declared.fault.Fault.{Fault}
use Rattle.wat_lexer.specs.declared.fault.Fault.TheVariants.{LexChar, LexString, LexComment}
use Rattle.wat_lexer.specs.declared.string.Escaped.{Escaped}
use Rattle.wat_lexer.specs.declared.string.Escaped.TheVariants as escaped

-- the text after the `;)` of a block comment in which depth more comments are open
unfoldable pub behind_comment : ℕ → List ℕ → Option (List ℕ)
behind_comment depth [] = None
behind_comment depth (a ∷ []) = None
behind_comment depth (a ∷ b ∷ t) =
    if (a == code "(") && (b == code ";") then behind_comment (depth + 1) t
    else (if (a == code ";") && (b == code ")")
    then (if depth == 0 then Some t else behind_comment (depth - 1) t)
    else behind_comment depth (b ∷ t))

-- A place within a string: between two elements, after a backslash, after a backslash and a hex
-- digit, after `\u`, or after `\u{` and digits of this value. The flag is true if a digit is
-- directly before the place.
pub data Mode : Type 0 where
  Raw : Mode
  Escape : Mode
  Byte : ℕ → Mode
  Brace : Mode
  Digits : ℕ → Bool → Mode

-- the effect of a byte at such a place
pub data Step : Type 0 where
  Bad : Step
  Close : Step
  Into : Mode → Step
  Emit : ℕ → Step
  Encode : ℕ → Step

abbrev pub emitted : Option ℕ → Step
emitted None = Bad
emitted (Some v) = Emit v

-- the effect of a byte at a place within a string
unfoldable pub step : Mode → ℕ → Step
step Raw b =
    if b == code "\"" then Close
    else (if b == code "\\" then Into Escape else (if is_raw b then Emit b else Bad))
step Escape b =
    if is_hex b then Into (Byte (digit_value b))
    else (if b == code "u" then Into Brace else emitted (short_escape b))
step (Byte h) b = if is_hex b then Emit (h * 16 + digit_value b) else Bad
step Brace b = if b == code "{" then Into (Digits 0 false) else Bad
step (Digits n behind) b =
    if is_hex b then (if nat_lt (n * 16 + digit_value b) 0x110000 then Into
    (Digits (n * 16 + digit_value b) true) else Bad)
    else (if behind && (b == code "_") then Into (Digits n false)
    else (if behind && ((b == code "}") && scalar n) then Encode n else Bad))

abbrev pub with_front : List ℕ → Option (List ℕ × List ℕ) → Option (List ℕ × List ℕ)
with_front v found = option_map (λ r. (v ++ r.0, r.1)) found

-- The rest of a string after a step: its content, and the text after its closing quote.
abbrev pub after_step : Step → List ℕ → (Mode → Option (List ℕ × List ℕ)) → Option (List ℕ × List ℕ)
after_step Bad t go = None
after_step Close t go = Some ([], t)
after_step (Into next) t go = go next
after_step (Emit v) t go = with_front (v ∷ []) (go Raw)
after_step (Encode n) t go = with_front (encode_utf8 n) (go Raw)

unfoldable pub string_at : Mode → List ℕ → Option (List ℕ × List ℕ)
string_at mode [] = None
string_at mode (b ∷ t) = after_step (step mode b) t (λ next. string_at next t)

-- a place in a run: between its parts, or in a mode within the string that begins with the text
pub data RunPlace : Type 0 where
  Between : RunPlace
  Within : Mode → List ℕ → RunPlace

-- the text after a run, or the text from the opening quote of an invalid string in the run on
pub data RunEnd : Type 0 where
  Ends : List ℕ → RunEnd
  Stuck : List ℕ → RunEnd

-- the end of a run after a step within a string
abbrev pub run_step : Step → List ℕ → (RunPlace → RunEnd) → RunEnd
run_step Bad q go = Stuck q
run_step Close q go = go Between
run_step (Into next) q go = go (Within next q)
run_step (Emit v) q go = go (Within Raw q)
run_step (Encode n) q go = go (Within Raw q)

unfoldable pub behind_run : RunPlace → List ℕ → RunEnd
behind_run Between [] = Ends []
behind_run Between (b ∷ t) =
    if b == code "\"" then behind_run (Within Raw (b ∷ t)) t
    else (if is_idchar b then behind_run Between t else Ends (b ∷ t))
behind_run (Within mode q) [] = Stuck q
behind_run (Within mode q) (b ∷ t) = run_step (step mode b) q (λ next. behind_run next t)

-- the offset at which a run ends, or the offset of the opening quote of an invalid string in it
abbrev pub RunEndIs : List ℕ → Result ℕ ℕ → RunEnd → Type 0
RunEndIs text (Ok end) e = e ≡ Ends (drop end text)
RunEndIs text (Err quote) e = (e ≡ Stuck (drop quote text)) × (quote ≤ length text)

-- the text after a line comment
unfoldable pub behind_line : List ℕ → List ℕ
behind_line [] = []
behind_line (b ∷ t) = if is_line_end b then b ∷ t else behind_line t

-- the text after spaces
unfoldable pub behind_spaces : List ℕ → List ℕ
behind_spaces [] = []
behind_spaces (b ∷ t) = if is_space b then behind_spaces t else b ∷ t

unfoldable pub all_idchars : List ℕ → Bool
all_idchars [] = true
all_idchars (b ∷ t) = is_idchar b && all_idchars t

-- the text between the offsets is a whole run, and has only idchars
pub record IsWholeWord (text : List ℕ) (at end : ℕ) : Type 0 where
  pub within : (at < end) × (end ≤ length text)
  pub all : all_idchars (slice_range text at end) ≡ true
  pub run : behind_run Between (drop at text) ≡ Ends (drop end text)

-- the content of the string in front, if nothing follows the string
abbrev pub whole : Option (List ℕ × List ℕ) → Option (List ℕ)
whole None = None
whole (Some (c, [])) = Some c
whole (Some (c, _ ∷ _)) = None

unfoldable pub string_of : List ℕ → Option (List ℕ)
string_of [] = None
string_of (b ∷ t) = if b == code "\"" then whole (string_at Raw t) else None

-- the name that a string after `$` or `@` spells, if it is UTF-8 and not empty
abbrev pub text_name : Option (List ℕ) → Option (List ℕ)
text_name None = None
text_name (Some []) = None
text_name (Some (b ∷ t)) = if is_utf8 (b ∷ t) then Some (b ∷ t) else None

unfoldable pub name_behind : List ℕ → Option (List ℕ)
name_behind [] = None
name_behind (b ∷ t) = if all_idchars (b ∷ t) then Some (b ∷ t) else text_name (string_of (b ∷ t))

abbrev pub or_reserved : (List ℕ → Token) → List ℕ → Option (List ℕ) → Token
or_reserved make x None = Reserved x
or_reserved make x (Some n) = make n

-- the class of a run
unfoldable pub class : Bool → List ℕ → Token
class behind [] = Reserved []
class behind (b ∷ t) =
    if b == code "\"" then or_reserved String (b ∷ t) (string_of (b ∷ t))
    else (if b == code "$" then or_reserved Id (b ∷ t) (name_behind t)
    else (if behind && (b == code "@") then or_reserved Annotation (b ∷ t) (name_behind t)
    else (if all_idchars (b ∷ t) && between (code "a") (code "z") b then Keyword (b ∷ t)
    else (if all_idchars (b ∷ t) && is_integer (b ∷ t) then Integer (b ∷ t)
    else Reserved (b ∷ t)))))

-- the blank or token in front of a text, or the fault and the text from the fault's offset on
pub data Beginning : Type 0 where
  Nothing : Beginning
  BlankTo : List ℕ → Beginning
  TokenTo : Token → List ℕ → Beginning
  Wrong : Fault → List ℕ → Beginning

abbrev pub tail : List ℕ → List ℕ
tail [] = []
tail (_ ∷ t) = t

abbrev pub comment_front : List ℕ → Option (List ℕ) → Beginning
comment_front s None = Wrong LexComment s
comment_front s (Some rest) = BlankTo rest

abbrev pub run_front : Bool → List ℕ → RunEnd → Beginning
run_front behind s (Stuck q) = Wrong LexString q
run_front behind s (Ends rest) =
    if length rest == length s then Wrong LexChar s else TokenTo
    (class behind (take (length s - length rest) s)) rest

unfoldable pub front : Bool → List ℕ → Beginning
front behind [] = Nothing
front behind (b ∷ t) =
    if is_space b then BlankTo t
    else (if b == code "("
    then (if begins (code ";") t then comment_front (b ∷ t) (behind_comment 0 (tail t))
    else TokenTo LParen t)
    else (if b == code ")" then TokenTo RParen t
    else (if b == code ";"
    then (if begins (code ";") t then BlankTo (behind_line (tail t)) else Wrong LexChar (b ∷ t))
    else run_front behind (b ∷ t) (behind_run Between (b ∷ t)))))

-- the text after a string; `s` is the text after the opening quote
unfoldable pub rest_at : List ℕ → Option (List ℕ)
rest_at s = option_map (λ r. r.1) (string_at Raw s)

-- the bytes that an escape spells
abbrev pub spelled : Escaped → List ℕ
spelled (escaped.Byte b) = b ∷ []
spelled (escaped.Char c) = encode_utf8 c

-- the end of a string, if its closing quote is in front
abbrev pub closing : List ℕ → Option (List ℕ × List ℕ)
closing [] = None
closing (b ∷ t) = if b == code "\"" then Some ([], t) else None

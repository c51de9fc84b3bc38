-- Hints: how an error may be mended.
use Rattle.std.specs.Prelude.{ℕ, ◌+◌, ◌-◌, ◌==◌, ◌&&◌, ◌||◌, Bool, List, codes, count_by, length, nat_le, nat_lt, take, slice_index, slice_range, Option, Some, None, is_some, if◌then◌else◌}
use Prim.Native.Char.{code}
use Rattle.std.specs.Option.{option_or}
use Rattle.wat_mnemonics.specs.Prelude.{list_any, bytes_eq, Fault, between}
use Rattle.wat_tokens.specs.Error.{LexChar, LexString, Unexpected, Operator}
use Rattle.wat_report.specs.Around.{past_word, list_start, opened_word}
use Rattle.wat_report.specs.Escapes.{escapes_end}
use Rattle.wat_report.specs.Found.{is_word_at, word_at, word_end}
use Rattle.wat_report.specs.Front.{is_before_groups, is_behind_group, is_in_group, is_in_two}
use Rattle.wat_report.specs.Meant.{keyword_text}
use Rattle.wat_report.specs.Positions.{line_stop}
use Rattle.wat_report.specs.declared.front.Groups.{Groups}
use Rattle.wat_report.specs.declared.hint.Hint.{Hint}
use Rattle.wat_report.specs.declared.hint.Hint.TheVariants.{ByteOrderMark, SeqCst, ModuleGroup, Nearest, OldWord, Semicolon, SlashComment, Unclosed, OpenString, Escapes, BehindModule, NoModule, OtherQuote, Fraction, NearField, NearType, WithoutDollar, WrongEscape}
use Rattle.wat_report.specs.declared.meant.TheConstants.{FIELD_WORDS}

-- the text begins with a byte order mark: the character U+FEFF
abbrev pub begins_with_mark : List ℕ → Bool
begins_with_mark text =
    (slice_index text 0 == 0xef) && ((slice_index text 1 == 0xbb) && (slice_index text 2 == 0xbf))

-- a module's field begins with the word
abbrev pub is_field_word : List ℕ → Bool
is_field_word word = list_any (λ field. bytes_eq (keyword_text field) word) FIELD_WORDS

-- the word of a field is at the offset, directly after the first `(` of the text
abbrev pub is_first_field : List ℕ → ℕ → Bool
is_first_field text at =
    nat_lt 0 at && ((slice_index text (at - 1) == code "(")
    && (is_field_word (word_at text at) && (count_by (λ b. b == code "(") (take at text) == 1)))

-- the word that replaced a word when the format was standardized
unfoldable pub new_word : List ℕ → Option (List ℕ)
new_word word =
    if bytes_eq word (codes "get_local") then Some (codes "local.get")
    else if bytes_eq word (codes "set_local") then Some (codes "local.set")
    else if bytes_eq word (codes "tee_local") then Some (codes "local.tee")
    else if bytes_eq word (codes "get_global") then Some (codes "global.get")
    else if bytes_eq word (codes "set_global") then Some (codes "global.set")
    else if bytes_eq word (codes "current_memory") then Some (codes "memory.size")
    else if bytes_eq word (codes "grow_memory") then Some (codes "memory.grow")
    else if bytes_eq word (codes "anyfunc") then Some (codes "funcref")
    else None

-- `//` or `/*` is at the offset
abbrev pub is_slash_comment : List ℕ → ℕ → Bool
is_slash_comment text at =
    (slice_index text at == code "/")
    && ((slice_index text (at + 1) == code "/") || (slice_index text (at + 1) == code "*"))

abbrev pub is_semicolon : List ℕ → ℕ → Bool
is_semicolon text at = slice_index text at == code ";"

-- the number of occurrences of a byte in the text
abbrev pub count_of : List ℕ → ℕ → ℕ
count_of text byte = count_by (λ b. b == byte) text

-- the text ends at the offset, inside a group
unfoldable pub is_unclosed : List ℕ → Option Groups → ℕ → Bool
is_unclosed text groups at = nat_le (length text) at && is_in_group groups

-- the number of occurrences of a byte from the offset to the end of its line
unfoldable pub count_in_line : List ℕ → ℕ → ℕ → ℕ
count_in_line text at byte = count_by (λ b. b == byte) (slice_range text at (line_stop text at))

-- the string at the offset has an invalid escape before the next quote
unfoldable pub has_wrong_escape : List ℕ → ℕ → Bool
has_wrong_escape text at = slice_index text (escapes_end text at) == code "\\"

-- the hint for an invalid string: it isn't closed on its line, it has an invalid escape, or a
-- backslash follows on its line
unfoldable pub string_hint : List ℕ → ℕ → Option Hint
string_hint text at =
    if nat_lt (count_in_line text at (code "\"")) 2 then Some OpenString
    else if has_wrong_escape text at then Some WrongEscape
    else if nat_lt 0 (count_in_line text at (code "\\")) then Some Escapes
    else None

-- the hint where no token begins: a byte order mark, or a `;`
abbrev pub char_hint : List ℕ → ℕ → Option Hint
char_hint text at =
    if (at == 0) && begins_with_mark text then Some ByteOrderMark
    else if is_semicolon text at then Some Semicolon
    else None

-- the hint that the token itself gives: `seq_cst`, an old word, a comment of other languages, or the
-- end of the text inside a group
unfoldable pub token_hint : List ℕ → Option Groups → ℕ → Option Hint
token_hint text groups at =
    if bytes_eq (word_at text at) (codes "seq_cst") then Some SeqCst
    else if is_some (new_word (word_at text at)) then Some OldWord
    else if is_slash_comment text at then Some SlashComment
    else if is_unclosed text groups at then Some Unclosed
    else None

-- the text ends at the offset, and has no group before it
unfoldable pub has_no_group : List ℕ → Option Groups → ℕ → Bool
has_no_group text groups at = nat_le (length text) at && is_before_groups groups

-- a string has to follow the word
abbrev pub is_string_word : List ℕ → Bool
is_string_word word = bytes_eq word (codes "export") || bytes_eq word (codes "import")

-- a `'` is at the offset, or follows a word there that needs a string after it
unfoldable pub is_other_quote : List ℕ → ℕ → Bool
is_other_quote text at =
    (slice_index text at == code "'")
    || (is_string_word (word_at text at) && (slice_index text (past_word text at) == code "'"))

-- a digit, `+` or `-`
abbrev pub begins_number : ℕ → Bool
begins_number b = between (code "0") (code "9") b || ((b == code "+") || (b == code "-"))

-- the word has a `.`, or an `e` and no `x`
abbrev pub is_fraction : List ℕ → Bool
is_fraction word =
    nat_lt 0 (count_of word (code "."))
    || (nat_lt 0 (count_of word (code "e")) && (count_of word (code "x") == 0))

-- a number that isn't an integer is at the offset
unfoldable pub is_fraction_at : List ℕ → ℕ → Bool
is_fraction_at text at = begins_number (slice_index text at) && is_fraction (word_at text at)

-- a word is at the offset, directly after the `(` of a group at depth two
unfoldable pub is_field_place : List ℕ → Option Groups → ℕ → Bool
is_field_place text groups at =
    is_word_at text at
    && (nat_lt 0 at && ((slice_index text (at - 1) == code "(") && is_in_two groups))

-- types follow the word
abbrev pub is_types_word : List ℕ → Bool
is_types_word word =
    bytes_eq word (codes "param")
    || (bytes_eq word (codes "result") || bytes_eq word (codes "local"))

-- A word is at the offset. The last parenthesis before it is a `(`, and the word of a group of types
-- follows that.
unfoldable pub is_type_place : List ℕ → ℕ → Bool
is_type_place text at =
    is_word_at text at
    && (nat_lt (list_start text at) at && is_types_word (opened_word text (list_start text at)))

-- a group that begins with the word comes before the instructions of a function
abbrev pub is_head_word : List ℕ → Bool
is_head_word word =
    is_types_word word || (is_string_word word || bytes_eq word (codes "type"))

-- A word of at most 64 bytes is at the offset, between `(func` and a group that comes before the
-- instructions of a function.
unfoldable pub is_without_dollar : List ℕ → ℕ → Bool
is_without_dollar text at =
    is_word_at text at
    && (bytes_eq (opened_word text (list_start text at)) (codes "func")
    && ((past_word text (list_start text at) == at)
    && (nat_le (word_end text at) (at + 64)
    && is_head_word (opened_word text (past_word text at + 1)))))

-- The hint for a token that isn't expected: the first field without `(module`, text after the module,
-- a text without a module, a `'`, a number that isn't an integer, an unknown word where a field or a
-- type is expected.
unfoldable pub unexpected_hint : List ℕ → Option Groups → ℕ → Option Hint
unexpected_hint text groups at =
    if is_first_field text at then Some ModuleGroup
    else if is_behind_group groups then Some BehindModule
    else if has_no_group text groups at then Some NoModule
    else if is_other_quote text at then Some OtherQuote
    else if is_fraction_at text at then Some Fraction
    else if is_field_place text groups at then Some NearField
    else if is_type_place text at then Some NearType
    else None

-- the hint for a token that isn't the expected instruction: a `'`, an identifier without its `$`, or
-- an unknown word
unfoldable pub operator_hint : List ℕ → ℕ → Option Hint
operator_hint text at =
    if is_other_quote text at then Some OtherQuote
    else if is_without_dollar text at then Some WithoutDollar
    else if is_word_at text at then Some Nearest
    else None

-- The hint for a fault at an offset, if there is one; `groups` counts the groups before the offset.
-- For Unexpected and Operator, the hint that the token itself gives comes first.
abbrev pub hint_of : List ℕ → Option Groups → ℕ → Fault → Option Hint
hint_of text groups at LexChar = char_hint text at
hint_of text groups at LexString = string_hint text at
hint_of text groups at Unexpected =
    option_or (token_hint text groups at) (unexpected_hint text groups at)
hint_of text groups at Operator = option_or (token_hint text groups at) (operator_hint text at)
hint_of _ _ _ _ = None

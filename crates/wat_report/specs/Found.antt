-- The token at an offset, as a message names it.
use Rattle.std.specs.Prelude.{ℕ, ◌+◌, ◌-◌, ◌==◌, ◌||◌, Bool, List, ◌++◌, length, codes, min, nat_le, nat_lt, drop, slice_index, slice_range, if◌then◌else◌}
use Prim.Native.Char.{code}
use Rattle.wat_mnemonics.specs.Prelude.{prefix_len, between, is_idchar}
use Rattle.wat_report.specs.Positions.{char_start}
use Rattle.wat_lexer.specs.Scan.{RunEnd, Ends, Stuck, Between, behind_run}

-- a lower-case letter is at the offset
abbrev pub is_word_at : List ℕ → ℕ → Bool
is_word_at text at = between (code "a") (code "z") (slice_index text at)

-- the end of the idchars at the offset
unfoldable pub word_end : List ℕ → ℕ → ℕ
word_end text at = at + prefix_len is_idchar (drop at text)

-- the idchars at the offset
abbrev pub word_at : List ℕ → ℕ → List ℕ
word_at text at = slice_range text at (word_end text at)

-- The first 64 of the idchars from the offset up to their end, between backquotes. They end with
-- `..` if more idchars follow, or a quote.
abbrev pub quoted_word : List ℕ → ℕ → ℕ → List ℕ
quoted_word text at end =
    codes "`" ++ (slice_range text at (min end (at + 64))
    ++ (if nat_lt (min end (at + 64)) end || (slice_index text end == code "\"") then codes "..`"
    else codes "`"))

abbrev pub word_text : List ℕ → ℕ → List ℕ
word_text text at = quoted_word text at (word_end text at)

-- the end of the character at the offset: bytes from 128 to 191 continue it
unfoldable pub char_end : List ℕ → ℕ → ℕ
char_end text at = at + 1 + prefix_len (between 128 191) (drop (at + 1) text)

-- the text after a run, or from an invalid string in it on
abbrev pub run_rest : RunEnd → List ℕ
run_rest (Ends rest) = rest
run_rest (Stuck rest) = rest

-- the end of the run of idchars and strings at the offset, or the opening quote of an invalid string
-- in the run
unfoldable pub token_end : List ℕ → ℕ → ℕ
token_end text at = length text - length (run_rest (behind_run Between (drop at text)))

-- The number of bytes to underline at the offset: the run there, or else one character; 0 at the end
-- of the text.
abbrev pub marked_len : List ℕ → ℕ → ℕ
marked_len text at =
    if nat_le (length text) at then 0
    else if nat_lt at (token_end text at) then token_end text at - at
    else char_end text at - at

-- the end of the first 64 of the bytes from the offset up to their end, without a last character that
-- isn't whole in them
abbrev pub shown_end : List ℕ → ℕ → ℕ → ℕ
shown_end text at end = if nat_lt 64 (end - at) then char_start text (at + 64) else end

abbrev pub quoted_to : List ℕ → ℕ → ℕ → ℕ → List ℕ
quoted_to text at stop end =
    codes "`" ++ (slice_range text at stop ++ (if nat_lt stop end then codes "..`" else codes "`"))

-- The underlined bytes at the offset, between backquotes: at most 64, and `..` if there are more.
unfoldable pub marked_text : List ℕ → ℕ → List ℕ
marked_text text at =
    quoted_to text at (shown_end text at (at + marked_len text at)) (at + marked_len text at)

-- the token at the offset, or the end of the text
abbrev pub found_text : List ℕ → ℕ → List ℕ
found_text text at =
    if nat_le (length text) at then codes "the end of the text"
    else if slice_index text at == code "\"" then codes "a string"
    else if slice_index text at == code "(" then codes "`(`"
    else if slice_index text at == code ")" then codes "`)`"
    else word_text text at

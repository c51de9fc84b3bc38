-- Words and groups around an offset.
use Rattle.std.specs.Prelude.{ℕ, ◌+◌, ◌-◌, ◌==◌, ◌&&◌, ◌||◌, Bool, List, [], nat_lt, drop, slice_index, if◌then◌else◌}
use Prim.Native.Char.{code}
use Rattle.wat_mnemonics.specs.Prelude.{prefix_len, is_space}
use Rattle.wat_report.specs.Found.{word_at, word_end}
use Rattle.wat_report.specs.Positions.{last_up_to}

-- a parenthesis is directly before the offset
abbrev pub is_behind_paren : List ℕ → ℕ → Bool
is_behind_paren text k =
    (slice_index text (k - 1) == code "(") || (slice_index text (k - 1) == code ")")

-- the offset directly after the last parenthesis before the offset, or 0
unfoldable pub list_start : List ℕ → ℕ → ℕ
list_start text at = last_up_to (is_behind_paren text) at

-- the first offset from there on that isn't white space
unfoldable pub blank_end : List ℕ → ℕ → ℕ
blank_end text at = at + prefix_len is_space (drop at text)

-- the end of the word at the offset and of the white space after it
abbrev pub past_word : List ℕ → ℕ → ℕ
past_word text at = blank_end text (word_end text at)

-- the word at the offset if it is directly after a `(`, else the empty word
unfoldable pub opened_word : List ℕ → ℕ → List ℕ
opened_word text at =
    if nat_lt 0 at && (slice_index text (at - 1) == code "(") then word_at text at else []

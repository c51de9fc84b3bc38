-- The character, the line and the column of an offset. Offsets are in bytes.
use Rattle.std.specs.Prelude.{ℕ, zero, suc, ◌+◌, ◌-◌, Bool, not, ◌&&◌, ◌||◌, ◌==◌, min, List, length, slice_index, slice_range, drop, if◌then◌else◌}
use Prim.Native.Char.{code}
use Rattle.std.specs.Str.{chars}
use Rattle.std.specs.List.{prefix_len}
use Rattle.wat_lexer.specs.Bytes.{between, is_line_end}
use Rattle.wat_report.specs.declared.lines.LineColumn.{LineColumn}

-- the number of numbers up to n that pass the test
unfoldable pub count_up_to : (ℕ → Bool) → ℕ → ℕ
count_up_to test zero = if test 0 then 1 else 0
count_up_to test (suc n) = count_up_to test n + (if test (suc n) then 1 else 0)

-- the last of the numbers up to n that passes the test, or 0
unfoldable pub last_up_to : (ℕ → Bool) → ℕ → ℕ
last_up_to test zero = 0
last_up_to test (suc n) = if test (suc n) then suc n else last_up_to test n

-- A character begins at the offset, or the text ends there. A byte from 128 to 191 continues the
-- character before it.
abbrev pub begins_char : List ℕ → ℕ → Bool
begins_char text k = not (between 128 191 (slice_index text k))

-- A line begins at the offset: the first line, or a line after LF, or after a CR without LF.
abbrev pub begins_line : List ℕ → ℕ → Bool
begins_line text k =
    (k == 0) || ((slice_index text (k - 1) == code "\n")
    || ((slice_index text (k - 1) == code "\r") && not (slice_index text k == code "\n")))

-- the start of the character that contains the offset; for an offset after the end, the end
abbrev pub char_start : List ℕ → ℕ → ℕ
char_start text offset = last_up_to (begins_char text) (min offset (length text))

-- the start of the line that contains the offset
abbrev pub line_start : List ℕ → ℕ → ℕ
line_start text at = last_up_to (begins_line text) at

-- the end of the line that begins at the offset: the next LF or CR, or the end of the text
abbrev pub line_stop : List ℕ → ℕ → ℕ
line_stop text start = start + prefix_len (λ b. not (is_line_end b)) (drop start text)

-- The line is the number of lines that begin at or before the character. The column is the number of
-- characters between the start of its line and the character, plus one.
abbrev pub position_of_char : List ℕ → ℕ → LineColumn
position_of_char text at = record {
  line = count_up_to (begins_line text) at;
  column = length (chars (slice_range text (line_start text at) at)) + 1;
}

-- the place of an offset is the place of the character that contains it
abbrev pub position_of_offset : List ℕ → ℕ → LineColumn
position_of_offset text offset = position_of_char text (char_start text offset)

-- the line that begins at the offset, without its line end
abbrev pub line_from : List ℕ → ℕ → List ℕ
line_from text start = slice_range text start (line_stop text start)

-- the line that contains the offset
abbrev pub line_of_offset : List ℕ → ℕ → List ℕ
line_of_offset text offset = line_from text (line_start text (char_start text offset))

-- The line of the text in a report, and the carets below it.
use Rattle.std.specs.Prelude.{ℕ, ◌+◌, ◌-◌, ◌==◌, Bool, List, [], ◌++◌, map, max, min, replicate, codes, nat_lt, drop, length, slice_range, true, if◌then◌else◌}
use Prim.Native.Char.{code}
use Rattle.std.specs.Str.{chars}
use Rattle.wat_report.specs.Found.{marked_len}
use Rattle.wat_report.specs.Positions.{char_start, line_start, line_stop}

-- the padding below a character: a tab below a tab, else a space
abbrev pub padding : ℕ → ℕ
padding c = if c == code "\t" then code "\t" else code " "

-- Up to 100 bytes of a line are shown before the place. A character that begins earlier and reaches
-- into these 100 bytes is shown whole.
abbrev pub first_shown : List ℕ → ℕ → ℕ → ℕ
first_shown text start mark =
    if nat_lt 100 (mark - start) then char_start text (mark - 100) else start

-- Up to 100 bytes are shown from the place on, without a last character that isn't whole in them.
abbrev pub last_shown : List ℕ → ℕ → ℕ → ℕ
last_shown text mark stop = if nat_lt 100 (stop - mark) then char_start text (mark + 100) else stop

-- the shown part of a line, with `..` on each side where the line goes on
abbrev pub source_line : List ℕ → Bool → Bool → List ℕ
source_line shown cut_before cut_behind =
    (if cut_before then codes ".." else [])
    ++ (shown ++ (if cut_behind then codes "..\n" else codes "\n"))

-- the number of carets: one for each of the marked characters, and at least one
abbrev pub caret_count : List ℕ → ℕ
caret_count marked = max (length (chars marked)) 1

abbrev pub carets : ℕ → List ℕ
carets count = replicate count (code "^")

-- the carets after the padding of each character that is shown before the place
abbrev pub caret_line : List ℕ → List ℕ → Bool → List ℕ
caret_line before marked cut_before =
    (if cut_before then codes "  " else [])
    ++ (map padding (chars before) ++ (carets (caret_count marked) ++ codes "\n"))

-- the bytes from first to last of the line from start to stop, and carets below those from mark to end
abbrev pub cut_line : List ℕ → ℕ → ℕ → ℕ → ℕ → ℕ → ℕ → List ℕ
cut_line text start first mark end last stop =
    source_line (slice_range text first last) (nat_lt start first) (nat_lt last stop)
    ++ caret_line (slice_range text first mark) (slice_range text mark end) (nat_lt start first)

-- the end of the marked characters that are shown
abbrev pub last_marked : List ℕ → ℕ → ℕ → ℕ
last_marked text end last = min (char_start text end) last

-- the line from start to stop, with carets below the characters from mark to end
abbrev pub marked_line : List ℕ → ℕ → ℕ → ℕ → ℕ → List ℕ
marked_line text start mark end stop =
    cut_line text start (first_shown text start mark) mark
    (last_marked text end (last_shown text mark stop)) (last_shown text mark stop) stop

-- The line that contains the offset, with carets below the underlined bytes from the offset on. For
-- an offset in the line end, one caret is directly after the line.
abbrev pub line_shown_from : List ℕ → ℕ → ℕ → ℕ → List ℕ
line_shown_from text start at stop =
    marked_line text start (min at stop) (at + marked_len text at) stop

abbrev pub shown_line : List ℕ → ℕ → List ℕ
shown_line text at =
    line_shown_from text (line_start text at) at (line_stop text (line_start text at))

-- the line that begins at start and goes on after the end of the text, shown from first on
abbrev pub open_from : List ℕ → ℕ → ℕ → List ℕ
open_from text start first =
    source_line (drop first text) (nat_lt start first) true
    ++ caret_line (drop first text) [] (nat_lt start first)

-- The line that begins at start and goes on after the end of the text, with the caret below the end
-- of the text.
abbrev pub open_line : List ℕ → ℕ → List ℕ
open_line text start = open_from text start (first_shown text start (length text))

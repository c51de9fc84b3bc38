-- Diagnostics as JSON (RFC 8259).
use Rattle.std.specs.Prelude.{ℕ, ◌==◌, List, [], ◌∷◌, ◌++◌, codes, decimal, flat_map, nat_lt, if◌then◌else◌}
use Prim.Native.Char.{code}
use Rattle.wat_report.specs.Kinds.{kind_name}
use Rattle.wat_report.specs.WrongBytes.{hex_text}
use Rattle.wat_report.specs.declared.diagnostic.Diagnostic.{Diagnostic}

-- A byte in a string of JSON. The escapes are those of `"`, `\` and the control characters below
-- U+0020; each other byte stands for itself.
abbrev pub json_escape : ℕ → List ℕ
json_escape b =
    if b == code "\"" then codes "\\\""
    else if b == code "\\" then codes "\\\\"
    else if nat_lt b 0x20 then codes "\\u00" ++ hex_text b
    else b ∷ []

-- the string of JSON for a text
unfoldable pub json_string : List ℕ → List ℕ
json_string text = codes "\"" ++ (flat_map json_escape text ++ codes "\"")

-- the first member of an object: the file
unfoldable pub json_head : List ℕ → List ℕ
json_head file = codes "{\"file\":" ++ json_string file

-- a further member with a number
unfoldable pub json_number : List ℕ → ℕ → List ℕ
json_number name n = codes ",\"" ++ (name ++ (codes "\":" ++ decimal n))

-- a further member with a string
unfoldable pub json_member : List ℕ → List ℕ → List ℕ
json_member name text = codes ",\"" ++ (name ++ (codes "\":" ++ json_string text))

-- the same, nothing if the string is empty
unfoldable pub json_words : List ℕ → List ℕ → List ℕ
json_words name [] = []
json_words name (b ∷ words) = json_member name (b ∷ words)

-- the members for the position of the error
unfoldable pub json_place : Diagnostic → List ℕ
json_place d =
    json_number (codes "line") d.place.line ++ (json_number (codes "column") d.place.column
    ++ (json_number (codes "offset") d.offset ++ json_number (codes "length") d.length))

-- the members for the kind of the error
unfoldable pub json_fault : Diagnostic → List ℕ
json_fault d =
    json_member (codes "fault") (kind_name d.kind)
    ++ json_member (codes "message") d.message.items

-- the members `hint` and `expected`
unfoldable pub json_notes : Diagnostic → List ℕ
json_notes d =
    json_words (codes "hint") d.hint.items ++ json_words (codes "expected") d.expected.items

-- the object of a diagnostic, on a line
unfoldable pub json_text : List ℕ → Diagnostic → List ℕ
json_text file d =
    json_head file ++ (json_place d ++ (json_fault d ++ (json_notes d ++ codes "}\n")))

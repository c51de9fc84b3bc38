-- The report of a fault.
use Rattle.std.specs.Prelude.{◌≡◌, ◌≢◌, ◌⊎◌, ℕ, List, [], ◌∷◌, ◌++◌, codes, decimal}
use Rattle.wat_mnemonics.specs.Prelude.{Fault, Memory}
use Rattle.wat_report.specs.Diagnostic.{IsDiagnostic}
use Rattle.wat_report.specs.declared.diagnostic.Diagnostic.{Diagnostic}
use Rattle.wat_report.specs.declared.lines.LineColumn.{LineColumn}

-- `NAME:LINE:COLUMN: error: `
abbrev pub heading_text : List ℕ → LineColumn → List ℕ
heading_text name p =
    name ++ (codes ":" ++ (decimal p.line
    ++ (codes ":" ++ (decimal p.column ++ codes ": error: "))))

-- a line of words after a label, nothing for no words
abbrev pub labelled_line : List ℕ → List ℕ → List ℕ
labelled_line label [] = []
labelled_line label (b ∷ words) = label ++ ((b ∷ words) ++ codes "\n")

-- the place and the message on a line
abbrev pub first_line : List ℕ → Diagnostic → List ℕ
first_line name d = heading_text name d.place ++ (d.message.items ++ codes "\n")

-- the line of the text with the caret, the hint, and the line `expected:`
abbrev pub further_lines : Diagnostic → List ℕ
further_lines d =
    d.shown.items
    ++ (labelled_line (codes "hint: ") d.hint.items
    ++ labelled_line (codes "expected: ") d.expected.items)

unfoldable pub report_text : List ℕ → Diagnostic → List ℕ
report_text name d = first_line name d ++ further_lines d

-- `NAME: error: ` and the message on a line
abbrev pub memory_report : List ℕ → List ℕ
memory_report name = name ++ codes ": error: memory ran out\n"

-- The report of a fault at an offset, without a line `expected:`. Memory has no place.
unfoldable pub IsReport : List ℕ → List ℕ → ℕ → Fault → List ℕ → Type 0
IsReport name text offset f said =
    ((f ≡ Memory) × (said ≡ memory_report name))
    ⊎ ((f ≢ Memory) × ((d : Diagnostic) × IsDiagnostic text offset f d × (d.expected.items ≡ [])
    × (said ≡ report_text name d)))

-- the report of a fault at an offset was added
abbrev pub AddsReport : List ℕ → List ℕ → ℕ → Fault → List ℕ → List ℕ → Type 0
AddsReport name text offset f old new =
    (said : List ℕ) × IsReport name text offset f said × (new ≡ old ++ said)

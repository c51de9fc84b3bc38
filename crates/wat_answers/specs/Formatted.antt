-- The formatted text, and the report for a text that can't be formatted.
use Rattle.std.specs.Prelude.{◌≡◌, ◌≢◌, ◌⊎◌, ℕ, List}
use Rattle.wat_report.specs.Prelude.{IsUtf8, FirstFault, IsCut, Fault, Memory, Placed, IsReport, report_text, IsFirstWrongByte}
use Rattle.wat_format.specs.Parts.{SameButSpaces}
use Rattle.wat_report.specs.declared.diagnostic.Diagnostic.{Diagnostic}

-- the text has a cut, and the answer differs from the text only in spaces
abbrev pub IsFormatted : List ℕ → List ℕ → Type 0
IsFormatted text answer = ((ts : List Placed) × IsCut text ts) × SameButSpaces text answer

-- the text has no cut, and the report is the report of its first fault
abbrev pub ReportsFault : List ℕ → List ℕ → List ℕ → Type 0
ReportsFault name text report =
    ((ts : List Placed) → IsCut text ts → ⊥)
    × ((f : Fault) × (offset : ℕ) × (f ≢ Memory) × FirstFault text f offset
    × IsReport name text offset f report)

-- the report of the first byte that isn't UTF-8
abbrev pub ReportsWrongByte : List ℕ → List ℕ → List ℕ → Type 0
ReportsWrongByte name bytes report =
    (d : Diagnostic) × IsFirstWrongByte bytes d × (report ≡ report_text name d)

-- the report of the first fault if the bytes are UTF-8, otherwise the report of the first wrong byte
unfoldable pub ReportsBytes : List ℕ → List ℕ → List ℕ → Type 0
ReportsBytes name bytes report =
    (IsUtf8 bytes × ReportsFault name bytes report) ⊎ ReportsWrongByte name bytes report

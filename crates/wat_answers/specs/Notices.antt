-- The notices of a check, as a report and as JSON.
use Rattle.std.specs.Prelude.{ℕ, List, ◌++◌, codes, decimal}
use Rattle.wat_report.specs.Report.{report_text}
use Rattle.wat_report.specs.Json.{json_head, json_number, json_text}
use Rattle.wat_answers.specs.declared.notice.Notice.{Notice}
use Rattle.wat_answers.specs.declared.notice.Notice.TheVariants.{Found, More, Further}

-- the number of further invalid fields
abbrev pub more_words : ℕ → List ℕ
more_words n = decimal n ++ codes " more fields are invalid"

-- the number of further errors of names, blocks and imports
abbrev pub further_words : ℕ → List ℕ
further_words n = decimal n ++ codes " more errors in names, blocks and imports"

-- what begins a line of a report without a position
abbrev pub error_head : List ℕ → List ℕ
error_head name = name ++ codes ": error: "

abbrev pub more_line : List ℕ → ℕ → List ℕ
more_line name n = error_head name ++ (more_words n ++ codes "\n")

abbrev pub further_line : List ℕ → ℕ → List ℕ
further_line name n = error_head name ++ (further_words n ++ codes "\n")

-- a line with the object `{"file":FILE,"more":N}`
abbrev pub more_json : List ℕ → ℕ → List ℕ
more_json file n = json_head file ++ (json_number (codes "more") n ++ codes "}\n")

-- a notice in a report
unfoldable pub notice_report : List ℕ → Notice → List ℕ
notice_report name (Found d) = report_text name d
notice_report name (More n) = more_line name n
notice_report name (Further n) = further_line name n

-- a notice as JSON
unfoldable pub notice_json : List ℕ → Notice → List ℕ
notice_json file (Found d) = json_text file d
notice_json file (More n) = more_json file n
notice_json file (Further n) = more_json file n

-- What formatting does and writes.
use Rattle.std.specs.Prelude.{◌≡◌, ◌≢◌, ◌⊎◌, ℕ, List, [], ◌++◌, codes, if◌then◌else◌}
use Rattle.wat_answers.specs.Prelude.{bytes_eq, IsFormatted, ReportsBytes}
use Rattle.wat.specs.Inputs.{shown_name}
use Rattle.wat.specs.declared.command.FormatMode.{FormatMode}
use Rattle.wat.specs.declared.command.FormatMode.TheVariants.{Rewrite, ListChanged, Diff}
use Rattle.wat.specs.declared.formatting.FormatTask.{FormatTask}
use Rattle.wat.specs.declared.formatting.FormatTask.TheVariants.{WriteOut, Check, Compare, Replace}

-- `fmt --check` checks each input, and `fmt --diff` compares it with its formatted text; `fmt` writes
-- the formatted text of standard input, and puts that of any other input in its place
abbrev pub format_task : FormatMode → List ℕ → FormatTask
format_task ListChanged name = Check
format_task Diff name = Compare
format_task Rewrite name = if bytes_eq name (codes "-") then WriteOut else Replace

-- What becomes of an input `text` whose formatted text is `answer`, with what is written and the
-- status; `shown` is the input's name as it is shown. The answer is written; or if the two differ, with
-- status 1, the name is, or what differs (no clause says how); or the answer replaces the input, if
-- they differ. The inputs are `old` before and `new` after that.
unfoldable pub Settles : {P : Type 0} → (P → P → List ℕ → List ℕ → Type 0) → FormatTask → P → P → List ℕ
    → List ℕ → List ℕ → List ℕ → List ℕ → ℕ → Type 0
Settles puts WriteOut old new shown name text answer output status =
    (new ≡ old) × (output ≡ answer) × (status ≡ 0)
Settles puts Check old new shown name text answer output status =
    (new ≡ old) × (((answer ≡ text) × (output ≡ []) × (status ≡ 0))
    ⊎ ((answer ≢ text) × (output ≡ shown ++ codes "\n") × (status ≡ 1)))
Settles puts Compare old new shown name text answer output status =
    (new ≡ old) × (((answer ≡ text) × (output ≡ []) × (status ≡ 0))
    ⊎ ((answer ≢ text) × (status ≡ 1)))
Settles puts Replace old new shown name text answer output status =
    (output ≡ []) × (status ≡ 0)
    × (((answer ≡ text) × (new ≡ old)) ⊎ ((answer ≢ text) × puts old new name answer))

-- nothing is written, and nothing changes
abbrev pub Leaves : {P : Type 0} → P → P → List ℕ → Type 0
Leaves old new output = (new ≡ old) × (output ≡ [])

-- Of an input that can be read: if its bytes are formatted, that becomes of them; if they can't be,
-- their report is not written, and the status is 1. With status 2 the input can't be read or
-- replaced, or memory runs out.
unfoldable pub FormatsName : {P : Type 0} → (P → List ℕ → List ℕ → Type 0) → (P → List ℕ → Type 0)
    → (P → P → List ℕ → List ℕ → Type 0) → FormatTask → P → P → List ℕ → List ℕ → List ℕ → ℕ → Type 0
FormatsName gives fails puts task old new stdin name output status =
    ((bytes : List ℕ) × gives old name bytes
    × (((answer : List ℕ) × IsFormatted bytes answer
    × Settles puts task old new (shown_name stdin name) name bytes answer output status)
    ⊎ (((report : List ℕ) × ReportsBytes (shown_name stdin name) bytes report) × Leaves old new output
    × (status ≡ 1))))
    ⊎ ((fails old name ⊎ ((bytes : List ℕ) × gives old name bytes)) × Leaves old new output
    × (status ≡ 2))

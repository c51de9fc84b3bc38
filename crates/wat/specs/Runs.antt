-- The answers of a run over several names.
use Rattle.std.specs.Prelude.{Bool, ◌≡◌, ◌⊎◌, ℕ, ◌≤◌, ◌==◌, if◌then◌else◌, List, [], ◌∷◌, ◌++◌, length, max, take, Option}
use Rattle.wat_answers.specs.Prelude.{Appends, AnswersBytes, AppendsBeginning}
use Rattle.wat.specs.Inputs.{shown_name}
use Rattle.wat.specs.Paints.{IsColored}
use Rattle.wat_answers.specs.declared.task.Task.{Task}
use Rattle.wat_answers.specs.declared.task.Task.TheVariants.{Check, Json, Listing, Print}

-- The answer for an input that a name stands for is that for its bytes. It is empty, with status 2,
-- where the read fails, or where memory runs out after it.
unfoldable pub AnswersName : (List ℕ → List ℕ → Type 0) → (List ℕ → Type 0) → Task → List ℕ → List ℕ
    → List ℕ → ℕ → Type 0
AnswersName gives fails task stdin name output status =
    ((bytes : List ℕ) × gives name bytes × AnswersBytes task (shown_name stdin name) bytes output status)
    ⊎ ((fails name ⊎ ((bytes : List ℕ) × gives name bytes)) × (output ≡ []) × (status ≡ 2))

-- How an answer is written: the report of a check with colors or without, and not the reason why a
-- module isn't printed.
unfoldable pub IsWritten : Bool → Task → ℕ → List ℕ → List ℕ → Type 0
IsWritten color (Check extent) status answer output = IsColored color answer output
IsWritten color (Json extent) status answer output = output ≡ answer
IsWritten color Listing status answer output = output ≡ answer
IsWritten color (Print layout) status answer output =
    output ≡ (if status == 0 then answer else [])

-- the answer for a name, as it is written
unfoldable pub WritesName : (List ℕ → List ℕ → Type 0) → (List ℕ → Type 0) → Bool → Task → List ℕ
    → List ℕ → List ℕ → ℕ → Type 0
WritesName gives fails color task stdin name output status =
    (answer : List ℕ) × AnswersName gives fails task stdin name answer status
    × IsWritten color task status answer output

-- The answers for names, one after another, from the first state of the sources to the last. The
-- status is the greatest of their statuses, and 0 for no names.
pub data AnswersNames {S : Type 0} (answers : S → S → List ℕ → List ℕ → ℕ → Type 0) (start : S)
    : S → List (List ℕ) → List ℕ → ℕ → Type 0 where
  none : AnswersNames answers start start [] [] 0
  more : (mid end : S) (names : List (List ℕ)) (name out output : List ℕ) (status own : ℕ)
      → AnswersNames answers start mid names out status → answers mid end name output own
      → AnswersNames answers start end (names ++ name ∷ []) (out ++ output) (max own status)

-- the answers for all names were written
abbrev pub WritesNames : {S : Type 0} → (S → S → List ℕ → List ℕ → ℕ → Type 0) → S → S
    → List (List ℕ) → Option (List ℕ) → Option (List ℕ) → ℕ → Type 0
WritesNames answers start end names old new status =
    (out : List ℕ) × AnswersNames answers start end names out status × Appends old new out

-- a prefix of the answers for some of the first names was written
abbrev pub WritesPartOfNames : {S : Type 0} → (S → S → List ℕ → List ℕ → ℕ → Type 0) → S → S
    → List (List ℕ) → Option (List ℕ) → Option (List ℕ) → Type 0
WritesPartOfNames answers start end names old new =
    (n : ℕ) × (out : List ℕ) × (status : ℕ) × (n ≤ length names)
    × AnswersNames answers start end (take n names) out status × AppendsBeginning old new out

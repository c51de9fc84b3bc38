-- The output of the program.
use Rattle.std.specs.Prelude.{◌≡◌, ◌≢◌, ◌⊎◌, ℕ, List, ◌++◌, codes, decimal}
use Rattle.wat_show.specs.Prelude.{IsUtf8, Memory}
use Rattle.wat_tokens.specs.Error.{Fault, Utf8}
use Rattle.wat_tokens.specs.Faults.{fault_name}

-- `refused NAME at OFFSET`
abbrev pub refusal : Fault → ℕ → List ℕ
refusal f offset =
    codes "refused " ++ (fault_name f ++ (codes " at " ++ (decimal offset ++ codes "\n")))

-- the listing of the value that the text spells, with status 0
abbrev pub ShowsValue : {A : Type 0} → (List ℕ → A → Type 0) → (A → List ℕ) → List ℕ → List ℕ → ℕ
    → Type 0
ShowsValue spelled listing text out status =
    (v : _) × spelled text v × (out ≡ listing v) × (status ≡ 0)

-- the line of a fault other than Memory, with status 1, if the text spells no value
abbrev pub ShowsFault : {A : Type 0} → (List ℕ → A → Type 0) → List ℕ → List ℕ → ℕ → Type 0
ShowsFault spelled text out status =
    ((v : _) → spelled text v → ⊥)
    × ((f : Fault) × (offset : ℕ) × (f ≢ Memory) × (out ≡ refusal f offset)) × (status ≡ 1)

-- the listing of a value, or the line of a fault
abbrev pub ShowsText : {A : Type 0} → (List ℕ → A → Type 0) → (A → List ℕ) → List ℕ → List ℕ → ℕ
    → Type 0
ShowsText spelled listing text out status =
    ShowsValue spelled listing text out status ⊎ ShowsFault spelled text out status

-- for bytes that are UTF-8, the output for their text; for other bytes, `refused Utf8 at 0` with status 1
abbrev pub ShowsBytes : (List ℕ → List ℕ → ℕ → Type 0) → List ℕ → List ℕ → ℕ → Type 0
ShowsBytes shows bytes out status =
    (IsUtf8 bytes × shows bytes out status)
    ⊎ ((IsUtf8 bytes → ⊥) × (out ≡ refusal Utf8 0) × (status ≡ 1))

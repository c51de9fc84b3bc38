-- The effects of a run on its reader and its writer. The definitions of std describe the bytes that a
-- reader has left and the bytes that a writer holds, if these bytes are known.
use Rattle.std.specs.Prelude.{◌≡◌, ◌≢◌, ℕ, List, [], ◌++◌, ⊤, Option, Result, MatchResult}
use Rattle.std.specs.Io.KnownBytes.{IsAtEnd, Consumes, Appends}

-- the reader returned these bytes, and is at its end
abbrev pub ReadsAll : Option (List ℕ) → Option (List ℕ) → List ℕ → Type 0
ReadsAll old new bytes = Consumes old new bytes × IsAtEnd new

-- the reader returned some bytes
abbrev pub ReadsOn : Option (List ℕ) → Option (List ℕ) → Type 0
ReadsOn old new = (bytes : List ℕ) × Consumes old new bytes

-- the writer took a prefix of `out`
abbrev pub AppendsBeginning : Option (List ℕ) → Option (List ℕ) → List ℕ → Type 0
AppendsBeginning old new out =
    (front : List ℕ) × (rest : List ℕ) × (out ≡ front ++ rest) × Appends old new front

-- the write returned an error, or wrote 0 bytes of a piece that isn't empty
abbrev pub IsFailedWrite : {E : Type 0} → Result ℕ E → List ℕ → Type 0
IsFailedWrite result piece = MatchResult result (λ count. (count ≡ 0) × (piece ≢ [])) (λ _. ⊤)

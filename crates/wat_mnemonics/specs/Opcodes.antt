-- The bytes of an opcode.
use Rattle.std.specs.Prelude.{IsSome, ◌≡◌, ℕ, ◌+◌, ◌%◌, ◌/◌, nat_lt, if◌then◌else◌, List, [], ◌∷◌, ◌++◌, length, Option, Some, None, Result, Ok, Err}
use Rattle.wat_tokens.specs.Error.{Error, Memory}
use Rattle.wat_mnemonics.specs.declared.opcode.Opcode.{Opcode}
use Rattle.wat_mnemonics.specs.declared.opcode.Opcode.TheVariants as o

-- a number below 2 ^ 14 in unsigned LEB128
abbrev pub leb : ℕ → List ℕ
leb n = (if nat_lt n 128 then n ∷ [] else (n % 128 + 128) ∷ (n / 128) ∷ [])

abbrev pub bytes : Opcode → Option (List ℕ)
bytes o.Absent = None
bytes (o.Single b) = Some (b ∷ [])
bytes (o.Saturating n) = Some (0xfc ∷ n ∷ [])
bytes (o.Vector n) = Some (0xfd ∷ leb n)

-- the bytes of an opcode are appended, and their number is returned
abbrev pub Written : Option (List ℕ) → List ℕ → List ℕ → Option ℕ → Type 0
Written None before after n = (after ≡ before) × (n ≡ None)
Written (Some b) before after n = (after ≡ before ++ b) × (n ≡ Some (length b))

-- `Written` on success. On an error, nothing is appended, the error is Memory, and the opcode has
-- bytes.
abbrev pub Appends : Option (List ℕ) → List ℕ → List ℕ → Result (Option ℕ) Error → Type 0
Appends b before after (Ok n) = Written b before after n
Appends b before after (Err e) = (after ≡ before) × (e.fault ≡ Memory) × (IsSome b)

-- The state of the reader.
use Rattle.std.specs.Prelude.{◌≡◌, ◌<◌, List, [], ◌∷◌, Option, Some, None, ℕ}
use Rattle.wat_tokens.specs.Token.{Token}
use Rattle.wat_expr.specs.declared.reader.Reader.{Reader}
use Rattle.wat_expr.specs.Flat.{flat}
use Rattle.wat_expr.specs.Progress.{LoopState}

-- the reader r, before the tokens ts
abbrev pub stand : Reader → List Token → LoopState
stand r ts = record {
  open_groups = r.open_groups;
  pending = r.pending;
  left = ts;
  out = flat r.out;
}

-- the value of a hint's string: the byte 0 or 1
abbrev pub IsHintByte : Option ℕ → List ℕ → Type 0
IsHintByte (Some v) s = (v < 2) × (s ≡ v ∷ [])
IsHintByte None s = (v : ℕ) → v < 2 → s ≡ v ∷ [] → ⊥

-- What a call appends.
use Rattle.std.specs.Prelude.{◌≡◌, List, ◌++◌, map, Result, MatchResult}
use Rattle.wat_tokens.specs.Error.{Error, Memory}

-- P holds of the value, or memory ran out.
abbrev pub OrMemory : {X : Type 0} → Result X Error → (X → Type 0) → Type 0
OrMemory result P = MatchResult result P (λ e. e.fault ≡ Memory)

-- The list is longer by what is more, as it is seen, or memory ran out.
abbrev pub Appends : {X Y A : Type 0} → (Y → A) → Result X Error → List Y → List Y → List A → Type 0
Appends f result old new more = OrMemory result (λ _. map f new ≡ map f old ++ more)

-- The line of the nearest words.
use Rattle.std.proofs.Common.{◌≡◌, List, [], ◌∷◌, ◌++◌, ℕ, length, ap, arith, sym, append-nil}
use Rattle.std.specs.List.{IsFirstAndRest}
use Rattle.wat_report.specs.HintWords.{question_words, nearest_words}

pub nearest_words_none : {A : Type 0} (mark : List ℕ) (spelling : A → List ℕ) (found : List A) (out : List ℕ) → length found ≡ 0 → out ≡ out ++ nearest_words mark spelling found
unfolding nearest_words
nearest_words_none mark spelling [] out e = sym (append-nil out)
nearest_words_none mark spelling (a ∷ others) out e = absurd (omega arith)

pub nearest_words_some : {A : Type 0} (mark : List ℕ) (spelling : A → List ℕ) (found : List A) (a : A) (others : List A) → IsFirstAndRest found a others → nearest_words mark spelling found ≡ question_words mark spelling a others
unfolding nearest_words
nearest_words_some mark spelling found a others e = ap (nearest_words mark spelling) e.0

-- One more name.
use Rattle.std.proofs.Common.{◌≡◌, ℕ, ◌+◌, ◌<◌, ◌≤◌, List, [], ◌∷◌, ◌++◌, length, take, map, get_or, subst, sym, ap, ◌∙◌, append_assoc, arith, Ok, Err, max, Option, Result, OnErr}
use Rattle.std.proofs.KnownBytes.{Appends-trans}
use Rattle.std.proofs.lemmas.List.{map-append, take-map, length-map, take_more}
use Rattle.wat_answers.specs.Prelude.{Appends, AppendsBeginning}
use Rattle.wat.specs.Runs.{AnswersNames, WritesPartOfNames, more}

pub answers_more : {S X : Type 0} (answers : S → S → List ℕ → List ℕ → ℕ → Type 0) (start mid end : S) (h : X → List ℕ) (xs : List X) (i : ℕ) (d : X) (out output : List ℕ) (status own : ℕ) → i < length xs → AnswersNames answers start mid (map h (take i xs)) out status → answers mid end (h (get_or xs i d)) output own → AnswersNames answers start end (map h (take (i + 1) xs)) (out ++ output) (max own status)
answers_more answers start mid end h xs i d out output status own l before next =
    let e : map h (take i xs) ++ h (get_or xs i d) ∷ [] ≡ map h (take (i + 1) xs) = sym (ap (map h) (take_more xs i d l) ∙ map-append h (take i xs) (get_or xs i d ∷ [])) in
    subst (λ names. AnswersNames answers start end names (out ++ output) (max own status)) e (more mid end (map h (take i xs)) (h (get_or xs i d)) out output status own before next)

pub begins_more : (a b c : Option (List ℕ)) (out output : List ℕ) → Appends a b out → AppendsBeginning b c output → AppendsBeginning a c (out ++ output)
begins_more a b c out output whole (front, rest, e, part) =
    (out ++ front, rest, ap (λ l. out ++ l) e ∙ sym (append_assoc out front rest), Appends-trans a b c out front whole part)

pub part_of_more : {S X : Type 0} (answers : S → S → List ℕ → List ℕ → ℕ → Type 0) (start mid end : S) (h : X → List ℕ) (xs : List X) (i : ℕ) (d : X) (a b c : Option (List ℕ)) (out output : List ℕ) (status own : ℕ) → i < length xs → AnswersNames answers start mid (map h (take i xs)) out status → answers mid end (h (get_or xs i d)) output own → Appends a b out → AppendsBeginning b c output → WritesPartOfNames answers start end (map h xs) a c
part_of_more answers start mid end h xs i d a b c out output status own l before next whole part =
    let all_answered = subst (λ names. AnswersNames answers start end names (out ++ output) (max own status)) (sym (take-map h (i + 1) xs)) (answers_more answers start mid end h xs i d out output status own l before next) in
    let within : i + 1 ≤ length (map h xs) = omega (arith, length-map xs h) in
    (i + 1, out ++ output, max own status, within, all_answered, begins_more a b c out output whole part)

pub on_err_always : {T E P : Type 0} (r : Result T E) → P → OnErr r P
on_err_always (Ok x) p = tt
on_err_always (Err e) p = p

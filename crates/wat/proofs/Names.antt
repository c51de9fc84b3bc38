-- A word that begins with `start`, or doesn't.
use Rattle.std.proofs.Common.{◌≡◌, ◌≢◌, ℕ, List, ◌++◌, length, drop, sym, ap, ◌∙◌, refl, Bool, true, false}
use Rattle.std.specs.Prelude.{if◌then◌else◌, nat_eq}
use Rattle.std.specs.List.{starts_with}
use Rattle.std.proofs.lemmas.Bool.Decides.{Decides-eqb}
use Rattle.std.proofs.lemmas.Slice.Eq.{starts_is}

false_unless : (b : Bool) → (b ≡ true → ⊥) → b ≡ false
false_unless true h = absurd (h refl)
false_unless false h = refl

pub begins : (start word rest : List ℕ) → word ≡ start ++ rest → starts_with nat_eq word start ≡ true
begins start word rest e =
    (starts_is (λ a b. Decides-eqb a b) word start (starts_with nat_eq word start) refl).1 rest e

pub begins_not : (start word : List ℕ) → ((rest : List ℕ) → word ≢ start ++ rest) → starts_with nat_eq word start ≡ false
begins_not start word lacks =
    false_unless (starts_with nat_eq word start) (λ t. lacks (drop (length start) word) ((starts_is (λ a b. Decides-eqb a b) word start (starts_with nat_eq word start) refl).0 t))

-- the part after `start`, or else the other name
pub named : (start word name given : List ℕ) (n : ℕ) → n ≡ length start → word ≡ start ++ drop n word → given ≡ drop n word → given ≡ (if starts_with nat_eq word start then drop (length start) word else name)
named start word name given n l e g =
    (g ∙ ap (λ (k : ℕ). drop k word) l) ∙ sym (ap (λ (b : Bool). if b then drop (length start) word else name) (begins start word (drop n word) e))

pub not_named : (start word name : List ℕ) → ((rest : List ℕ) → word ≢ start ++ rest) → name ≡ (if starts_with nat_eq word start then drop (length start) word else name)
not_named start word name lacks =
    sym (ap (λ (b : Bool). if b then drop (length start) word else name) (begins_not start word lacks))

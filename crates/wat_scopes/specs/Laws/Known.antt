-- Laws: equality of names, and lists of names.
use Rattle.std.proofs.Common.{◌≡◌, Bool, true, false, ◌||◌, List, [], ◌∷◌, ◌++◌, refl, sym, ap, ◌∙◌}
use Rattle.std.proofs.Math.Bool.{or_assoc}
use Rattle.wat_scopes.specs.Spaces.{NameModel, same_name}
use Rattle.wat_scopes.specs.Known.{has_name}
use Rattle.wat_scopes.specs.Laws.Spaces.{same_name_decides}

-- two tests that imply one another are the same
same_tests : (a b : Bool) → (a ≡ true → b ≡ true) → (b ≡ true → a ≡ true) → a ≡ b
same_tests true b f g = sym (f refl)
same_tests false true f g = g refl
same_tests false false f g = refl

pub same_name_sym : (m n : NameModel) → same_name m n ≡ same_name n m
same_name_sym m n =
    same_tests (same_name m n) (same_name n m)
    (λ e. (same_name_decides n m).1 (sym ((same_name_decides m n).0 e)))
    (λ e. (same_name_decides m n).1 (sym ((same_name_decides n m).0 e)))

pub has_name-append : (n : NameModel) (xs ys : List NameModel)
    → has_name n (xs ++ ys) ≡ (has_name n xs || has_name n ys)
has_name-append n [] ys = refl
has_name-append n (x ∷ xs) ys =
    ap (λ b. same_name n x || b) (has_name-append n xs ys)
    ∙ sym (or_assoc (same_name n x) (has_name n xs) (has_name n ys))

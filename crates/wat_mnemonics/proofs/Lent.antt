-- The item of a list of references to texts at an index, by the list of the texts.
use Rattle.std.proofs.Common.{◌≡◌, ℕ, List, get_or, map, sym}
use Rattle.std.proofs.Math.ListN.{get_or-map}
use Rattle.std.specs.Borrow.{Bor}

abbrev pub texts : List (Bor (List ℕ)) → List (List ℕ)
texts xs = map (λ (w : Bor (List ℕ)). w.now) xs

pub text_at : (xs : List (Bor (List ℕ))) (n : ℕ) (d : Bor (List ℕ)) → (get_or xs n d).now ≡ get_or (texts xs) n d.now
text_at xs n d = sym (get_or-map (λ (w : Bor (List ℕ)). w.now) xs n d)

-- Bytes of a slice.
use Rattle.std.specs.Prelude.{◌≡◌, ℕ, zero, suc, ◌<◌, true, List, [], ◌∷◌, slice_index, refl}
use Rattle.wat_print.specs.Laws.Prelude.{byte_is, printable_string}

pub bytes_printable : (s : List ℕ) → ((i : ℕ) → slice_index s i < 256) → printable_string s ≡ true
bytes_printable [] h = refl
bytes_printable (b ∷ s) h = rw (byte_is b (h zero)) (bytes_printable s (λ i. h (suc i)))

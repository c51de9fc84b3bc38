-- Laws: names that are UTF-8 and not empty can be written.
use Rattle.std.specs.Prelude.{◌≡◌, ℕ, true, false, ◌==◌, List, [], ◌∷◌, length}
use Rattle.wat_print.specs.Laws.Prelude.{IsUtf8, is_utf8-from_IsUtf8, is_name}

pub name_printable : (n : List ℕ) → IsUtf8 n → (length n == 0) ≡ false → is_name n ≡ true
name_printable [] u e = absurd cc
name_printable (b ∷ n) u e = is_utf8-from_IsUtf8 (b ∷ n) u

-- The result of a UTF-8 test.
use Rattle.std.specs.Prelude.{◌≡◌, ℕ, List, true}
use Rattle.std.specs.Str.{is_utf8, IsUtf8}
use Rattle.std.proofs.lemmas.Str.{is_utf8-from_IsUtf8}

pub is_text : (bs : List ℕ) → IsUtf8 bs → is_utf8 bs ≡ true
is_text bs u = is_utf8-from_IsUtf8 bs u

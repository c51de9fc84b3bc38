-- Laws: identifiers and indices.
use Rattle.std.proofs.Common.{◌≡◌, ℕ, List, [], ap}
use Rattle.wat_lexer.specs.Prelude.{Decides, unsigned_Decides, bytes_decides}
use Rattle.wat_tokens.specs.Index.{IndexModel, number, name, same_index}

-- ---- equality

abbrev idx_number : IndexModel → ℕ
idx_number (number n) = n
idx_number (name x) = 0

abbrev name_in : IndexModel → List ℕ
name_in (number n) = []
name_in (name x) = x

pub same_index_decides : (x y : IndexModel) → Decides (same_index x y) (x ≡ y)
same_index_decides (number m) (number n) =
    (λ e. ap number ((unsigned_Decides m n).0 e), λ e. (unsigned_Decides m n).1 (ap idx_number e))
same_index_decides (number m) (name y) = (λ e. absurd cc, λ e. absurd cc)
same_index_decides (name x) (number n) = (λ e. absurd cc, λ e. absurd cc)
same_index_decides (name x) (name y) =
    (λ e. ap name ((bytes_decides x y).0 e), λ e. (bytes_decides x y).1 (ap name_in e))

-- Words by their first eight bytes.
use Rattle.std.specs.Prelude.{ℕ, zero, suc, ◌+◌, ◌*◌, List, get_or}

-- the first n bytes as one number, the first byte the most significant, with 0 for missing bytes
abbrev pub number_of : List ℕ → ℕ → ℕ
number_of bytes zero = 0
number_of bytes (suc n) = number_of bytes n * 256 + get_or bytes n 0

-- the number of the first eight bytes
abbrev pub key : List ℕ → ℕ
key bytes = number_of bytes 8

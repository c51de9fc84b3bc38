-- Powers of two.
use Rattle.std.specs.Prelude.{◌≡◌, ℕ, ◌^◌}

-- n is a power of two
abbrev pub IsPowerOfTwo : ℕ → Type 0
IsPowerOfTwo n = (k : ℕ) × (n ≡ 2 ^ k)

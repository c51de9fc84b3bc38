-- Laws: numbers that differ, and powers of two.
use Rattle.std.proofs.Common.{◌≡◌, ◌≢◌, ℕ, suc, ◌*◌, ◌^◌, ◌==◌, true, false, arith}
use Rattle.std.specs.Cmp.{unsigned_Decides}

pub apart : (m n : ℕ) → (m == n) ≡ false → m ≢ n
apart m n e f = absurd (let t : (m == n) ≡ true = (unsigned_Decides m n).1 f in cc)

pub doubles : (k : ℕ) → 2 ^ suc k ≡ 2 * 2 ^ k
doubles k = omega arith

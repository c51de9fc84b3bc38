-- The stretch of the table that a binary search has left.
use Rattle.std.specs.Prelude.{◌≡◌, ℕ, zero, suc, ◌+◌, ◌<◌, ◌≤◌, [], get_or, List}
use Rattle.wat_mnemonics.specs.Order.{words, IsBelow, IsAbove}
use Rattle.wat_mnemonics.specs.Table.{op_count}

-- the entries before base are less than the text, and all from base + size - 1 on are greater
pub record IsWithin (base size : ℕ) (text : List ℕ) : Type 0 where
  pub bound : base + size ≤ op_count + 1
  pub less : (k : ℕ) → k < base → IsBelow (get_or words k []) text
  pub more : (k : ℕ) → base + size ≤ k + 1 → k < op_count → IsAbove (get_or words k []) text

-- room k: a stretch of at most so many entries can be halved at most k times
abbrev pub room : ℕ → ℕ
room zero = 1
room (suc k) = room k + room k

-- size is small enough for the most - made comparisons that are left
abbrev pub IsFew : ℕ → ℕ → ℕ → Type 0
IsFew size made most = (k : ℕ) × (made + k ≡ most) × (size ≤ room k)

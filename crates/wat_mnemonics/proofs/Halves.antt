-- A binary search.
use Rattle.std.proofs.Common.{◌≡◌, ℕ, zero, suc, ◌+◌, ◌-◌, ◌*◌, ◌/◌, ◌<◌, ◌≤◌, List, [], length, get_or, arith, ap, ◌∙◌}
use Rattle.wat_mnemonics.specs.Prelude.{Less, Greater, State, IsWithin, IsFew, words_rise, words_length, cmp, words, op_word, op_count}
use Rattle.wat_mnemonics.specs.Laws.TableIndex.{found_at}
use Rattle.wat_mnemonics.specs.declared.op.Op.{Op}
use Rattle.wat_mnemonics.proofs.WordOrder.{below_less, above_greater, absent}

-- ---- the halves of a stretch, by the comparison of the middle entry with the text

pub upper_half : (base size : ℕ) (t : List ℕ) → 1 < size → IsWithin base size t → cmp (get_or words (base + size / 2 - 1) []) t ≡ Less → IsWithin (base + size / 2) (size - size / 2) t
upper_half base size t l w e =
    let b : base + size / 2 - 1 < length words = let s = words_length in omega (arith, w.bound) in
    record {
      bound = omega (arith, w.bound);
      less = λ k u. below_less words t (base + size / 2 - 1) words_rise b e k (omega (arith, u, l));
      more = λ k u v. w.more k (omega (arith, u)) v;
    }

pub lower_half : (base size : ℕ) (t : List ℕ) → 1 < size → IsWithin base size t → cmp (get_or words (base + size / 2 - 1) []) t ≡ Greater → IsWithin base (size - size / 2) t
lower_half base size t l w e = record {
  bound = omega (arith, w.bound);
  less = w.less;
  more = λ k u v. above_greater words t (base + size / 2 - 1) words_rise e k (omega (arith, u, l)) (let s = words_length in omega (arith, v));
}

-- a text is no word if its stretch has no entry
pub no_place : (base size : ℕ) (t : List ℕ) → size ≤ 1 → IsWithin base size t → (h : Op) → op_word h ≡ t → ⊥
no_place base size t l w h e =
    let p : (k : ℕ) × (k < op_count) × (get_or words k [] ≡ op_word h) = found_at h in
    let s : length words ≡ op_count = words_length in
    absent words t base base (omega arith) w.less (λ k u v. w.more k (omega (arith, u, l)) (omega (arith, v, s))) p.0 (omega (arith, p.1, s)) (p.2 ∙ e)

-- ---- the number of times that a stretch can be halved

-- b is a with one more comparison counted
abbrev pub Probed : State → State → Type 0
Probed a b = b ≡ record a { probes = a.probes + 1 }

pub one_more : (a b : State) → Probed a b → b.probes ≡ a.probes + 1
one_more a b e = ap (λ (s : State). s.probes) e

-- after the comparison, the greater half is short enough
pub few_left : (size most : ℕ) (a b : State) → 1 < size → Probed a b → IsFew size a.probes most → IsFew (size - size / 2) b.probes most
few_left size most a b l e (zero, f, s) = absurd (omega (arith, l, s))
few_left size most a b l e (suc k, f, s) = (k, omega (arith, one_more a b e, f), omega (arith, s))

-- the number of comparisons made is at most the bound
pub few_made : (size p most : ℕ) → IsFew size p most → p ≤ most
few_made size p most (k, f, s) = omega (arith, f)

-- a comparison was made, or the whole table is left
pub made_one : (n size left : ℕ) (a b : State) → Probed a b → size ≤ op_count + 1 → op_count + 1 + (op_count + 1) * n ≤ size + (op_count + 1) * a.probes → op_count + 1 + (op_count + 1) * n ≤ left + (op_count + 1) * b.probes
made_one n size left a b e l h = omega (arith, one_more a b e, l, h)

-- if only the count of comparisons had changed, only that count has changed after more comparisons
pub probed_only : (a b e : State) (n : ℕ) → b ≡ record a { probes = b.probes } → e ≡ record b { probes = n } → e ≡ record a { probes = e.probes }
probed_only a b e n p q = rw (q) (ap (λ (s : State). record s { probes = n }) p)

-- Numbers and their bytes.
use Rattle.std.proofs.Common.{lit<, ◌≡◌, ℕ, zero, suc, ℤ, ◌+◌, ◌*◌, ◌/◌, ◌<◌, ◌%◌, ◌^◌, List, [], ◌∷◌, ◌++◌, map, flat_map, length, get_or, arith, refl, ap, sym, ◌∙◌, length-append}
use Rattle.std.proofs.lemmas.List.Concat.{flat_map-append}
use Rattle.std.proofs.Math.Arith.{mod-mul}
use Rattle.std.proofs.Math.Nat.{div-div-eq-div-mul}
use Rattle.std.specs.Array.{IsMapOf}
use Rattle.wat_operands.specs.Prelude.{w8, w16, w32, w64, byte_at, bytes_low_first, cast_unsigned, to_le_bytes, bytes_of}
use Rattle.wat_operands.specs.Vector.{lane_bits, SameShape}
use Rattle.wat_operands.specs.declared.vector.V128Const.{V128Const}
use Rattle.wat_operands.specs.declared.vector.V128Const.TheVariants.{I8x16, I16x8, I32x4, I64x2, F32x4, F64x2}
use Rattle.wat_operands.proofs.Again.{eight_items}
use denote.Param.Members.{Mut, Called}

-- the one byte of a lane of 8 bits
abbrev pub low_byte : ℤ → ℕ
low_byte x = cast_unsigned w8 x % 256

pub of_16 : (xs : List ℤ) → flat_map (to_le_bytes w8) (map (cast_unsigned w8) xs) ≡ map low_byte xs
of_16 [] = refl
of_16 (x ∷ xs) = ap (λ (u : List ℕ). low_byte x ∷ u) (of_16 xs)

-- the bytes of eight numbers are the bytes of the first four, and then the bytes of the last four
pub halves : (f : ℕ → List ℕ) (xs us vs ws : List ℕ) → length xs ≡ 8
    → us ≡ flat_map f (get_or xs 0 0 ∷ (get_or xs 1 0 ∷ (get_or xs 2 0 ∷ (get_or xs 3 0 ∷ []))))
    → vs ≡ flat_map f (get_or xs 4 0 ∷ (get_or xs 5 0 ∷ (get_or xs 6 0 ∷ (get_or xs 7 0 ∷ []))))
    → ws ≡ us ++ vs → ws ≡ flat_map f xs
halves f xs us vs ws l first second whole =
    let first4 = get_or xs 0 0 ∷ (get_or xs 1 0 ∷ (get_or xs 2 0 ∷ (get_or xs 3 0 ∷ []))) in
    let last4 = get_or xs 4 0 ∷ (get_or xs 5 0 ∷ (get_or xs 6 0 ∷ (get_or xs 7 0 ∷ []))) in
    let items : first4 ++ last4 ≡ xs = eight_items xs 0 0 0 0 0 0 0 0 l in
    rw (whole, first, second) (sym (flat_map-append f first4 last4) ∙ ap (flat_map f) items)

-- ---- the result of `map`, if each call returns f of its item

module _ {F A : Type 0} (g : Mut F (A × Unit {0}) ℕ) (f : A → ℕ) (gives : (p q : F) (x : A) (y : ℕ) → Called g p (x, tt) y q → y ≡ f x) where
  by_items : (xs : List A) (ys : List ℕ) → length xs ≡ length ys → ((i : ℕ) (d : A) (e : ℕ) → i < length ys → get_or ys i e ≡ f (get_or xs i d)) → ys ≡ map f xs
  by_items [] [] l at = refl
  by_items [] (y ∷ ys) l at = absurd (omega (arith, l))
  by_items (x ∷ xs) [] l at = absurd (omega (arith, l))
  by_items (x ∷ xs) (y ∷ ys) l at =
      let first : y ≡ f x = at 0 x y (omega arith) in
      let rest : ys ≡ map f xs = by_items xs ys (omega (arith, l)) (λ i d e lt. at (suc i) d e (omega (arith, lt))) in
      cc

  pub mapped : (p : F) (xs : List A) (ys : List ℕ) (n : ℕ) → length xs ≡ n → IsMapOf g p xs ys n → ys ≡ map f xs
  mapped p xs ys n l m = by_items xs ys (l ∙ sym m.long) (λ i d e lt. (let c = m.at i d e (omega (arith, lt, m.long)) in gives c.0 c.1 (get_or xs i d) (get_or ys i e) c.2))

-- ---- equal bytes come from equal numbers

fronts : (a b c d : List ℕ) → length a ≡ length b → a ++ c ≡ b ++ d → (a ≡ b) × (c ≡ d)
fronts [] [] c d l e = (refl, e)
fronts [] (y ∷ b) c d l e = absurd (omega (arith, l))
fronts (x ∷ a) [] c d l e = absurd (omega (arith, l))
fronts (x ∷ a) (y ∷ b) c d l e =
    let first : x ≡ y = cc in
    let rest : a ++ c ≡ b ++ d = cc in
    let p = fronts a b c d (omega (arith, l)) rest in
    let same : a ≡ b = p.0 in
    (cc, p.1)

-- ---- the bytes of a number determine its bits

no_shift : (n : ℕ) → n / 256 ^ 0 ≡ n
no_shift n = omega arith

byte_is : (i n : ℕ) → byte_at i n ≡ n / 256 ^ i % 256
byte_is zero n = ap (λ (m : ℕ). m % 256) (sym (no_shift n))
byte_is (suc i) n = refl

shifts : (n i : ℕ) → n / 256 ^ i / 256 ≡ n / 256 ^ suc i
shifts n i = div-div-eq-div-mul n (256 ^ i) 256 ∙ ap (λ (p : ℕ). n / p) (omega arith)

power_above : (k : ℕ) → 0 < 256 ^ k
power_above zero = omega arith
power_above (suc k) = omega (arith, power_above k)

-- byte i of a number, and the k bytes above byte i
digits : (n i k : ℕ) → n / 256 ^ i % 256 ^ suc k ≡ (n / 256 ^ suc i % 256 ^ k) * 256 + byte_at i n
digits n i k =
    ap (λ (p : ℕ). n / 256 ^ i % p) (omega arith) ∙ mod-mul (n / 256 ^ i) {m = 256 ^ k} {c = 256} (power_above k) (lit< tt)
    ∙ ap (λ (q : ℕ). (q % 256 ^ k) * 256 + n / 256 ^ i % 256) (shifts n i)
    ∙ ap (λ (b : ℕ). (n / 256 ^ suc i % 256 ^ k) * 256 + b) (sym (byte_is i n))

-- k bytes from byte i upward determine that part of the number
bytes_tell : (k i n m : ℕ) → bytes_low_first i k n ≡ bytes_low_first i k m → n / 256 ^ i % 256 ^ k ≡ m / 256 ^ i % 256 ^ k
bytes_tell zero i n m e = omega arith
bytes_tell (suc k) i n m e =
    let lowest : byte_at i n ≡ byte_at i m = cc in
    let others : bytes_low_first (suc i) k n ≡ bytes_low_first (suc i) k m = cc in
    let above = bytes_tell k (suc i) n m others in
    rw (digits n i k, digits m i k, lowest, above) refl

low_bytes : (k n m : ℕ) → bytes_low_first 0 k n ≡ bytes_low_first 0 k m → n % 256 ^ k ≡ m % 256 ^ k
low_bytes k n m e = rw (no_shift n, no_shift m) at (bytes_tell k 0 n m e)

module _ (f : ℕ → List ℕ) (low : ℕ → ℕ) (k : ℕ) (long : (m : ℕ) → length (f m) ≡ suc k) (one : (l m : ℕ) → f l ≡ f m → low l ≡ low m) where
  same_numbers : (xs ys : List ℕ) → flat_map f xs ≡ flat_map f ys → map low xs ≡ map low ys
  same_numbers [] [] e = refl
  same_numbers [] (y ∷ ys) e = absurd (omega (arith, ap length e, length-append (f y) (flat_map f ys), long y))
  same_numbers (x ∷ xs) [] e = absurd (omega (arith, ap length e, length-append (f x) (flat_map f xs), long x))
  same_numbers (x ∷ xs) (y ∷ ys) e =
      let s = fronts (f x) (f y) (flat_map f xs) (flat_map f ys) (long x ∙ sym (long y)) e in
      let first : low x ≡ low y = one x y s.0 in
      let rest : map low xs ≡ map low ys = same_numbers xs ys s.1 in
      cc

same_8 : (xs ys : List ℕ) → flat_map (to_le_bytes w8) xs ≡ flat_map (to_le_bytes w8) ys → map (λ n. n % 2 ^ 8) xs ≡ map (λ n. n % 2 ^ 8) ys
same_8 = same_numbers (to_le_bytes w8) (λ n. n % 2 ^ 8) 0 (λ m. refl) (low_bytes 1)

same_16 : (xs ys : List ℕ) → flat_map (to_le_bytes w16) xs ≡ flat_map (to_le_bytes w16) ys → map (λ n. n % 2 ^ 16) xs ≡ map (λ n. n % 2 ^ 16) ys
same_16 = same_numbers (to_le_bytes w16) (λ n. n % 2 ^ 16) 1 (λ m. refl) (low_bytes 2)

same_32 : (xs ys : List ℕ) → flat_map (to_le_bytes w32) xs ≡ flat_map (to_le_bytes w32) ys → map (λ n. n % 2 ^ 32) xs ≡ map (λ n. n % 2 ^ 32) ys
same_32 = same_numbers (to_le_bytes w32) (λ n. n % 2 ^ 32) 3 (λ m. refl) (low_bytes 4)

same_64 : (xs ys : List ℕ) → flat_map (to_le_bytes w64) xs ≡ flat_map (to_le_bytes w64) ys → map (λ n. n % 2 ^ 64) xs ≡ map (λ n. n % 2 ^ 64) ys
same_64 = same_numbers (to_le_bytes w64) (λ n. n % 2 ^ 64) 7 (λ m. refl) (low_bytes 8)

pub same_bits : (v w : V128Const) → SameShape v w → bytes_of v ≡ bytes_of w → lane_bits v ≡ lane_bits w
same_bits (I8x16 xs) (I8x16 ys) s e = same_8 _ _ e
same_bits (I16x8 xs) (I16x8 ys) s e = same_16 _ _ e
same_bits (I32x4 xs) (I32x4 ys) s e = same_32 _ _ e
same_bits (I64x2 xs) (I64x2 ys) s e = same_64 _ _ e
same_bits (F32x4 xs) (F32x4 ys) s e = same_32 _ _ e
same_bits (F64x2 xs) (F64x2 ys) s e = same_64 _ _ e
same_bits _ _ s e = absurd s

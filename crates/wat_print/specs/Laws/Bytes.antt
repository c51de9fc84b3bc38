-- Laws: the bytes of UTF-8.
use Rattle.std.proofs.Common.{◌≡◌, ℕ, Bool, ◌+◌, ◌/◌, ◌%◌, ◌<◌, true, List, [], ◌∷◌, ◌++◌, encode_utf8, refl, subst, arith, inl, inr, ltb}
use Rattle.std.specs.Char.{IsScalar}
use Rattle.std.proofs.Math.Utf8.{scalar, scalars, scalar_cases, encode}
use Rattle.wat_types.specs.Prelude.{encode_utf8_all, IsUtf8, and_parts, cond_both, nat_tests}
use Rattle.wat_print.specs.Prelude.{all_are, is_byte}

pub both_are : (test : ℕ → Bool) (x y : List ℕ) → all_are test x ≡ true → all_are test y ≡ true
    → all_are test (x ++ y) ≡ true
both_are test [] y h k = k
both_are test (b ∷ x) y h k =
    let p = and_parts (test b) (all_are test x) h in
    rw (p.0) (both_are test x y p.1 k)

pub front_are : (test : ℕ → Bool) (x y : List ℕ) → all_are test (x ++ y) ≡ true
    → (all_are test x ≡ true) × (all_are test y ≡ true)
front_are test [] y h = (refl, h)
front_are test (b ∷ x) y h =
    let p = and_parts (test b) (all_are test (x ++ y)) h in
    let q = front_are test x y p.1 in
    (rw (p.0) (q.0), q.1)

pub byte_is : (b : ℕ) → b < 256 → is_byte b ≡ true
byte_is b lt = grind (arith, nat_tests)

bytes_2 : (a b : ℕ) → a < 256 → b < 256 → all_are is_byte (a ∷ b ∷ []) ≡ true
bytes_2 a b h k = rw (byte_is a h, byte_is b k) refl

bytes_3 : (a b c : ℕ) → a < 256 → b < 256 → c < 256 → all_are is_byte (a ∷ b ∷ c ∷ []) ≡ true
bytes_3 a b c h k l = rw (byte_is a h) (bytes_2 b c k l)

bytes_4 : (a b c d : ℕ) → a < 256 → b < 256 → c < 256 → d < 256
    → all_are is_byte (a ∷ b ∷ c ∷ d ∷ []) ≡ true
bytes_4 a b c d h k l m = rw (byte_is a h) (bytes_3 b c d k l m)

scalar_below : (c : ℕ) → IsScalar c → c < 1114112
scalar_below c s = elim (scalar_cases c s) [ inl h ↦ omega arith | inr h ↦ h.1 ]

-- the second and further bytes of a character
tail_byte : (n : ℕ) → 128 + n % 64 < 256
tail_byte n = omega arith

pub character_bytes : (c : ℕ) → IsScalar c → all_are is_byte (encode_utf8 c) ≡ true
unfolding encode
character_bytes c s =
    let lt = scalar_below c s in
    let low : 128 + c % 64 < 256 = tail_byte c in
    let middle : 128 + c / 64 % 64 < 256 = tail_byte (c / 64) in
    let high : 128 + c / 4096 % 64 < 256 = tail_byte (c / 4096) in
    cond_both (ltb c 128) _ _ (λ (x : List ℕ). all_are is_byte x ≡ true)
    (λ e. (rw (byte_is c (let k : c < 128 = grind (arith, nat_tests) in omega arith)) refl))
    (λ e. (cond_both (ltb c 2048) _ _ (λ (x : List ℕ). all_are is_byte x ≡ true)
    (λ f. (bytes_2 (192 + c / 64) (128 + c % 64)
    (let k : c < 2048 = grind (arith, nat_tests) in omega arith) low))
    (λ f. (cond_both (ltb c 65536) _ _ (λ (x : List ℕ). all_are is_byte x ≡ true)
    (λ g. (bytes_3 (224 + c / 4096) (128 + c / 64 % 64) (128 + c % 64)
    (let k : c < 65536 = grind (arith, nat_tests) in omega arith) middle low))
    (λ g. (bytes_4 (240 + c / 262144) (128 + c / 4096 % 64) (128 + c / 64 % 64) (128 + c % 64)
    (omega arith) high middle low))))))

characters_bytes : (cs : List ℕ) → scalars cs ≡ true → all_are is_byte (encode_utf8_all cs) ≡ true
characters_bytes [] s = refl
characters_bytes (c ∷ cs) s =
    let p = and_parts (scalar c) (scalars cs) s in
    both_are is_byte (encode_utf8 c) (encode_utf8_all cs) (character_bytes c p.0)
    (characters_bytes cs p.1)

pub utf8_bytes : (x : List ℕ) → IsUtf8 x → all_are is_byte x ≡ true
utf8_bytes x u = subst (λ (y : List ℕ). all_are is_byte y ≡ true) u.1.1 (characters_bytes u.0 u.1.0)

-- Constants of 128 bits, and the lanes of a shuffle.
use Rattle.std.specs.Prelude.{ℕ, ◌%◌, ◌^◌, Bool, true, ◌&&◌, List, [], ◌∷◌, ◌++◌, codes, map, flat_map, ⊤}
use Rattle.wat_types.specs.Prelude.{Width, w8, w16, w32, w64, cast_unsigned, to_le_bytes, at_word, Production, word, seq, made, where_else, unsigned, signed, none, F32, F64}
use Rattle.wat_operands.specs.declared.vector.I8x16Shuffle.{I8x16Shuffle}
use Rattle.wat_operands.specs.declared.vector.V128Const.{V128Const}
use Rattle.wat_operands.specs.declared.vector.V128Const.TheVariants.{I8x16, I16x8, I32x4, I64x2, F32x4, F64x2}

-- ---- a number of values

module _ {A : Type 0} where
  -- g g
  unfoldable pub two : Production A → Production (List A)
  two g = made (λ v. v.0 ∷ (v.1 ∷ [])) (seq g g)

  -- g g, with the values of both in one list
  abbrev pub twice : Production (List A) → Production (List A)
  twice g = made (λ v. v.0 ++ v.1) (seq g g)

  -- g, four times
  unfoldable pub four : Production A → Production (List A)
  four g = twice (two g)

  -- g, eight times
  unfoldable pub eight : Production A → Production (List A)
  eight g = twice (four g)

  -- g, sixteen times
  unfoldable pub sixteen : Production A → Production (List A)
  sixteen g = twice (eight g)

-- each of the values is heapless
abbrev pub all_heapless : {A : Type 0} → (A → Bool) → List A → Bool
all_heapless heapless [] = true
all_heapless heapless (v ∷ vs) = heapless v && all_heapless heapless vs

-- ---- constants

-- the number with the given bits
abbrev pub f32_of : ℕ → F32
f32_of n = record { bits = n }

abbrev pub f64_of : ℕ → F64
f64_of n = record { bits = n }

abbrev pub f32x4_of : List ℕ → V128Const
f32x4_of lanes = F32x4 (map f32_of lanes)

abbrev pub f64x2_of : List ℕ → V128Const
f64x2_of lanes = F64x2 (map f64_of lanes)

-- a shape's word, and its lanes
abbrev pub shaped : {A : Type 0} → List ℕ → (List A → V128Const) → Production (List A)
    → Production V128Const
shaped w f g = made (λ v. f v.1) (seq (word w) g)

-- `f32x4` with 4 numbers or `f64x2` with 2: no tokens spell a floating-point number, so no tokens
-- spell these constants
unfoldable pub float_const : Production V128Const
float_const =
    where_else (at_word (codes "f32x4")) (shaped (codes "f32x4") f32x4_of (four none))
    (shaped (codes "f64x2") f64x2_of (two none))

-- `i32x4` with 4 i32, `i64x2` with 2 i64, or a constant of floating-point numbers
unfoldable pub wide_const : Production V128Const
wide_const =
    where_else (at_word (codes "i32x4")) (shaped (codes "i32x4") I32x4 (four (signed 32)))
    (where_else (at_word (codes "i64x2")) (shaped (codes "i64x2") I64x2 (two (signed 64)))
    float_const)

-- `i8x16` with 16 i8, `i16x8` with 8 i16, `i32x4` with 4 i32, `i64x2` with 2 i64; `f32x4` and
-- `f64x2` have no spelling
unfoldable pub v128_const : Production V128Const
v128_const =
    where_else (at_word (codes "i8x16")) (shaped (codes "i8x16") I8x16 (sixteen (signed 8)))
    (where_else (at_word (codes "i16x8")) (shaped (codes "i16x8") I16x8 (eight (signed 16)))
    wide_const)

-- ---- bytes

-- the lanes as unsigned numbers: a negative lane by two's complement, a floating-point lane by its
-- bits
abbrev pub lane_numbers : V128Const → List ℕ
lane_numbers (I8x16 lanes) = map (cast_unsigned w8) lanes
lane_numbers (I16x8 lanes) = map (cast_unsigned w16) lanes
lane_numbers (I32x4 lanes) = map (cast_unsigned w32) lanes
lane_numbers (I64x2 lanes) = map (cast_unsigned w64) lanes
lane_numbers (F32x4 lanes) = map (λ x. x.bits) lanes
lane_numbers (F64x2 lanes) = map (λ x. x.bits) lanes

-- the type of a lane
abbrev pub lane_width : V128Const → Width
lane_width (I8x16 lanes) = w8
lane_width (I16x8 lanes) = w16
lane_width (I32x4 lanes) = w32
lane_width (I64x2 lanes) = w64
lane_width (F32x4 lanes) = w32
lane_width (F64x2 lanes) = w64

-- the lanes in order, each little-endian
abbrev pub bytes_of : V128Const → List ℕ
bytes_of v = flat_map (to_le_bytes (lane_width v)) (lane_numbers v)

-- the number of bits of a lane
abbrev pub lane_size : V128Const → ℕ
lane_size (I8x16 lanes) = 8
lane_size (I16x8 lanes) = 16
lane_size (I32x4 lanes) = 32
lane_size (I64x2 lanes) = 64
lane_size (F32x4 lanes) = 32
lane_size (F64x2 lanes) = 64

-- the bits of each lane
abbrev pub lane_bits : V128Const → List ℕ
lane_bits v = map (λ n. n % 2 ^ lane_size v) (lane_numbers v)

-- the same number of lanes, of the same kind
abbrev pub SameShape : V128Const → V128Const → Type 0
SameShape (I8x16 xs) (I8x16 ys) = ⊤
SameShape (I16x8 xs) (I16x8 ys) = ⊤
SameShape (I32x4 xs) (I32x4 ys) = ⊤
SameShape (I64x2 xs) (I64x2 ys) = ⊤
SameShape (F32x4 xs) (F32x4 ys) = ⊤
SameShape (F64x2 xs) (F64x2 ys) = ⊤
SameShape _ _ = ⊥

-- ---- shuffles

abbrev pub shuffle_of : List ℕ → I8x16Shuffle
shuffle_of lanes = record { lanes = lanes }

-- 16 u8
unfoldable pub shuffle : Production I8x16Shuffle
shuffle = made shuffle_of (sixteen (unsigned 8))

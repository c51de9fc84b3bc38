-- Example tokens, masked.
use Rattle.std.specs.Prelude.{◌≡◌, [], ◌∷◌, codes, true, false}
use Rattle.wat_masked.specs.Prelude.{LParen, RParen, Keyword, Annotation, Integer, String, Reserved, is_float, masked_tokens}

abbrev pub Floats : Type 0
Floats =
    (is_float (codes "1.5") ≡ true) × (is_float (codes "-0x1.8p-3") ≡ true)
    × (is_float (codes "nan:0x200000") ≡ true) × (is_float (codes "+1_0.e5") ≡ true)
    × (is_float (codes "7") ≡ true) × (is_float (codes "-inf") ≡ true)
    × (is_float (codes "0x1F") ≡ true)

abbrev pub NoFloats : Type 0
NoFloats =
    (is_float (codes ".5") ≡ false) × (is_float (codes "1__0") ≡ false)
    × (is_float (codes "1._5") ≡ false) × (is_float (codes "1e") ≡ false)
    × (is_float (codes "nan:200") ≡ false) × (is_float (codes "0x") ≡ false)
    × (is_float (codes "1p3") ≡ false) × (is_float (codes "") ≡ false)

-- `(f32.const 1.5)`
abbrev pub Constant : Type 0
Constant =
    masked_tokens (LParen ∷ Keyword (codes "f32.const") ∷ Reserved (codes "1.5") ∷ RParen ∷ [])
    ≡ LParen ∷ Keyword (codes "i32.const") ∷ Integer (codes "0") ∷ RParen ∷ []

-- `(f32 1.5 2) (f64 inf)`
abbrev pub Data : Type 0
Data =
    masked_tokens (LParen ∷ Keyword (codes "f32") ∷ Reserved (codes "1.5") ∷ Integer (codes "2")
    ∷ RParen ∷ LParen ∷ Keyword (codes "f64") ∷ Keyword (codes "inf") ∷ RParen ∷ [])
    ≡ LParen ∷ Keyword (codes "i32") ∷ Integer (codes "0") ∷ Integer (codes "0") ∷ RParen
    ∷ LParen ∷ Keyword (codes "i64") ∷ Integer (codes "0") ∷ RParen ∷ []

-- `f32x4 nan "x" 1.5 i32.const 1.5`
abbrev pub Row : Type 0
Row =
    masked_tokens (Keyword (codes "f32x4") ∷ Keyword (codes "nan") ∷ String (codes "x")
    ∷ Reserved (codes "1.5") ∷ Keyword (codes "i32.const") ∷ Reserved (codes "1.5") ∷ [])
    ≡ Keyword (codes "i32x4") ∷ Integer (codes "0") ∷ String (codes "x")
    ∷ Reserved (codes "1.5") ∷ Keyword (codes "i32.const") ∷ Reserved (codes "1.5") ∷ []

-- `f64x2 (@a (f32 1.5)) 1.5 (@b) nan`
abbrev pub Hidden : Type 0
Hidden =
    masked_tokens (Keyword (codes "f64x2") ∷ LParen ∷ Annotation (codes "a") ∷ LParen
    ∷ Keyword (codes "f32") ∷ Reserved (codes "1.5") ∷ RParen ∷ RParen ∷ Reserved (codes "1.5")
    ∷ LParen ∷ Annotation (codes "b") ∷ RParen ∷ Keyword (codes "nan") ∷ [])
    ≡ Keyword (codes "i64x2") ∷ LParen ∷ Annotation (codes "a") ∷ LParen
    ∷ Keyword (codes "f32") ∷ Reserved (codes "1.5") ∷ RParen ∷ RParen ∷ Integer (codes "0")
    ∷ LParen ∷ Annotation (codes "b") ∷ RParen ∷ Integer (codes "0") ∷ []

-- `(param f32 1.5) f32.const`: the type isn't directly after the `(`, and nothing follows the last
-- word
abbrev pub Unchanged : Type 0
Unchanged =
    masked_tokens (LParen ∷ Keyword (codes "param") ∷ Keyword (codes "f32")
    ∷ Reserved (codes "1.5") ∷ RParen ∷ Keyword (codes "f32.const") ∷ [])
    ≡ LParen ∷ Keyword (codes "param") ∷ Keyword (codes "f32") ∷ Reserved (codes "1.5") ∷ RParen
    ∷ Keyword (codes "f32.const") ∷ []

-- Numbers of data segments, as their bytes.
use Rattle.std.specs.Prelude.{◌≤◌, ℕ, ℤ, Bool, List, codes}
use Rattle.std.proofs.Common.{lit≤}
use Rattle.wat_expr.specs.Prelude.{Width, w8, w16, w32, w64, cast_unsigned, to_le_bytes, Token, Production, made, where_else, after_word, joined, signed, none, at_word, at_more, Test, run, either_test, at_group}
use Rattle.wat_fields.specs.VectorBytes.{vector_as_bytes}
use Rattle.wat_fields.specs.Laws.Numbers.{vector_consumes}

-- ---- one number, as its bytes, the lowest first

-- the bytes of an integer of the width; negative integers are in two's complement
abbrev pub integer_bytes : Width → ℤ → List ℕ
integer_bytes w n = to_le_bytes w (cast_unsigned w n)

-- iN, as its bytes
abbrev pub integer_as_bytes : Width → ℕ → Production (List ℕ)
integer_as_bytes w n = made (integer_bytes w) (signed n)

-- a floating-point number, as the bytes of its bits: no tokens spell such a number
abbrev pub float_as_bytes : Width → Production (List ℕ)
float_as_bytes w = made (to_le_bytes w) none

-- ---- the keyword of a number type, and numbers of that type to the end

-- w g*, to the end, as all their bytes in order
abbrev pub all_behind : List ℕ → (g : Production (List ℕ)) → 1 ≤ g.least → Production (List ℕ)
all_behind w g consumes = after_word w (joined at_more g consumes)

-- `v128` V128Const* | `f32` | `f64`; no tokens spell a floating-point number
unfoldable pub other_numbers : Production (List ℕ)
other_numbers =
    where_else (at_word (codes "f32")) (all_behind (codes "f32") (float_as_bytes w32) (lit≤ tt))
    (where_else (at_word (codes "f64"))
    (all_behind (codes "f64") (float_as_bytes w64) (lit≤ tt))
    (all_behind (codes "v128") vector_as_bytes vector_consumes))

-- `i32` i32* | `i64` i64* | other numbers
unfoldable pub wide_numbers : Production (List ℕ)
wide_numbers =
    where_else (at_word (codes "i32"))
    (all_behind (codes "i32") (integer_as_bytes w32 32) (lit≤ tt))
    (where_else (at_word (codes "i64"))
    (all_behind (codes "i64") (integer_as_bytes w64 64) (lit≤ tt))
    other_numbers)

-- `i8` i8* | `i16` i16* | wide numbers
unfoldable pub number_list : Production (List ℕ)
number_list =
    where_else (at_word (codes "i8"))
    (all_behind (codes "i8") (integer_as_bytes w8 8) (lit≤ tt))
    (where_else (at_word (codes "i16"))
    (all_behind (codes "i16") (integer_as_bytes w16 16) (lit≤ tt))
    wide_numbers)

-- ---- the beginning of a group of numbers

abbrev pub at_integers : Test
at_integers =
    either_test (either_test (either_test (at_group (codes "i8")) (at_group (codes "i16")))
    (at_group (codes "i32"))) (at_group (codes "i64"))

abbrev pub begins_integers : List Token → Bool
begins_integers t = run at_integers t

-- `(`, and the keyword of a number type
abbrev pub at_numbers : Test
at_numbers =
    either_test (either_test (either_test at_integers (at_group (codes "f32")))
    (at_group (codes "f64"))) (at_group (codes "v128"))

abbrev pub begins_numbers : List Token → Bool
begins_numbers t = run at_numbers t

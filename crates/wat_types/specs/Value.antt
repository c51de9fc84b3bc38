-- Value types.
use Rattle.std.specs.Prelude.{◌≡◌, ℕ, Bool, List, [], ◌∷◌, codes, Option, Some, None, refl}
use Rattle.wat_tokens.specs.Prelude.{Token, word_in, look_up, Production, one, made, where_else, Test, run, either_test, at_listed}
use Rattle.wat_types.specs.Reference.{RefTypeModel, ref_view, ref_type, at_shorthand, at_long_ref}
use Rattle.wat_types.specs.declared.value.ValType.{ValType}
use Rattle.wat_types.specs.declared.value.ValType.TheVariants as code

-- a value type, without the positions of indices
pub data ValTypeModel : Type 0 where
  i32 : ValTypeModel
  i64 : ValTypeModel
  f32 : ValTypeModel
  f64 : ValTypeModel
  v128 : ValTypeModel
  ref : RefTypeModel → ValTypeModel

abbrev pub val_view : ValType → ValTypeModel
val_view code.I32 = i32
val_view code.I64 = i64
val_view code.F32 = f32
val_view code.F64 = f64
val_view code.V128 = v128
val_view (code.Ref r) = ref (ref_view r)

-- the number and vector types, by keyword
abbrev pub plain_words : List (List ℕ × ValTypeModel)
plain_words =
    (codes "i32", i32) ∷ (codes "i64", i64) ∷ (codes "f32", f32) ∷ (codes "f64", f64)
    ∷ (codes "v128", v128) ∷ []

-- one of the five words, or a RefType
unfoldable pub val_type : Production ValTypeModel
val_type =
    where_else (at_listed plain_words) (one (word_in plain_words) (refl, refl))
    (made ref ref_type)

-- the type that the word names, if it is one of the five words
abbrev pub IsPlain : List ℕ → Option ValType → Type 0
IsPlain w (Some t) = look_up plain_words w ≡ Some (val_view t)
IsPlain w None = look_up plain_words w ≡ None

-- one of the five words
unfoldable pub at_plain : Test
at_plain = at_listed plain_words

abbrev pub begins_plain : List Token → Bool
begins_plain t = run at_plain t

-- one of the five words, a shorthand, or `(` and `ref` or `shared`
abbrev pub at_val : Test
at_val = either_test at_plain (either_test at_shorthand at_long_ref)

abbrev pub begins_val : List Token → Bool
begins_val t = run at_val t

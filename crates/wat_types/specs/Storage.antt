-- Storage types and global types.
use Rattle.std.specs.Prelude.{Bool, false, List, codes}
use Rattle.wat_tokens.specs.Prelude.{Token, Production, word, seq, made, where_else, flag, paren, Test, either_test, at_word, second_word, run}
use Rattle.wat_types.specs.Value.{ValTypeModel, val_view, val_type}
use Rattle.wat_types.specs.declared.storage.StorageType.{StorageType}
use Rattle.wat_types.specs.declared.storage.GlobalType.{GlobalType}
use Rattle.wat_types.specs.declared.storage.StorageType.TheVariants as code

-- ---- storage types

-- a storage type, without the positions of indices
pub data StorageTypeModel : Type 0 where
  i8 : StorageTypeModel
  i16 : StorageTypeModel
  val : ValTypeModel → StorageTypeModel

abbrev pub storage_view : StorageType → StorageTypeModel
storage_view code.I8 = i8
storage_view code.I16 = i16
storage_view (code.Val t) = val (val_view t)

-- i8 | i16 | ValType
unfoldable pub storage_type : Production StorageTypeModel
storage_type =
    where_else (at_word (codes "i8")) (made (λ _. i8) (word (codes "i8")))
    (where_else (at_word (codes "i16")) (made (λ _. i16) (word (codes "i16")))
    (made val val_type))

-- ---- global types

-- a global type, without the positions of indices
pub record GlobalTypeModel : Type 0 where
  pub ty : ValTypeModel
  pub mutable : Bool
  pub shared : Bool

abbrev pub global_type_view : GlobalType → GlobalTypeModel
global_type_view t = record { ty = val_view t.ty; mutable = t.mutable; shared = t.shared }

-- the second token is `shared` or `mut`, for any first token
abbrev pub at_long_global : Test
at_long_global = either_test (second_word (codes "shared")) (second_word (codes "mut"))

abbrev pub long_global : List Token → Bool
long_global t = run at_long_global t

abbrev pub global_type_of : Bool × (Bool × ValTypeModel) → GlobalTypeModel
global_type_of v = record { shared = v.0; mutable = v.1.0; ty = v.1.1 }

-- neither mutable nor shared
abbrev pub plain_global : ValTypeModel → GlobalTypeModel
plain_global t = record { ty = t; mutable = false; shared = false }

-- ( shared? mut? ValType ) if the second token is `shared` or `mut`; else ValType
unfoldable pub global_type : Production GlobalTypeModel
global_type =
    where_else at_long_global (made global_type_of
    (paren (seq (flag (codes "shared")) (seq (flag (codes "mut")) val_type))))
    (made plain_global val_type)

-- Limits, page sizes, table types and memory types.
use Rattle.std.specs.Prelude.{ℕ, Bool, true, false, codes, Option}
use Rattle.wat_tokens.specs.Prelude.{Production, word, seq, made, where_else, opt, flag, group, unsigned, restated, at_word, at_group, at_integer}
use Rattle.wat_types.specs.Reference.{RefTypeModel, ref_view, ref_type}
use Rattle.wat_types.specs.declared.limits.Limits.{Limits}
use Rattle.wat_types.specs.declared.limits.MemoryType.{MemoryType}
use Rattle.wat_types.specs.declared.limits.TableType.{TableType}
use Rattle.wat_types.specs.PageSize.{ExponentSpells, exponent_tested}
use Rattle.wat_types.specs.Laws.Limits.{exponent_to, exponent_from}

-- ---- limits

-- ( i32 | i64 )?, as whether the word is `i64`
unfoldable pub is_64 : Production Bool
is_64 = where_else (at_word (codes "i64")) (made (λ _. true) (word (codes "i64")))
    (made (λ _. false) (flag (codes "i32")))

abbrev pub limits_of : Bool × (ℕ × Option ℕ) → Limits
limits_of v = record { is64 = v.0; min = v.1.0; max = v.1.1 }

-- ( i32 | i64 )? u64 u64?; the second number is present if the next token is any integer
unfoldable pub limits_type : Production Limits
limits_type = made limits_of (seq is_64 (seq (unsigned 64) (opt at_integer (unsigned 64))))

-- ---- page sizes

-- u32, a power of two, as its exponent
unfoldable pub page_exponent : Production ℕ
page_exponent = restated exponent_tested ExponentSpells exponent_to exponent_from

-- ( pagesize u32 ), a power of two, as its exponent
unfoldable pub pagesize : Production ℕ
pagesize = group (codes "pagesize") page_exponent

-- pagesize?, absent if the next two tokens aren't `(` and `pagesize`
unfoldable pub pagesize_or_none : Production (Option ℕ)
pagesize_or_none = opt (at_group (codes "pagesize")) pagesize

-- ---- table types

-- a table type, without the positions of indices
pub record TableTypeModel : Type 0 where
  pub limits : Limits
  pub elem : RefTypeModel
  pub shared : Bool

abbrev pub table_type_view : TableType → TableTypeModel
table_type_view t = record { limits = t.limits; elem = ref_view t.elem; shared = t.shared }

abbrev pub table_type_of : Bool × (Limits × RefTypeModel) → TableTypeModel
table_type_of v = record { shared = v.0; limits = v.1.0; elem = v.1.1 }

-- shared? Limits RefType
unfoldable pub table_type : Production TableTypeModel
table_type = made table_type_of (seq (flag (codes "shared")) (seq limits_type ref_type))

-- ---- memory types

abbrev pub memory_type_of : Limits × (Bool × Option ℕ) → MemoryType
memory_type_of v = record { limits = v.0; shared = v.1.0; page_size_log2 = v.1.1 }

-- Limits shared? pagesize?
unfoldable pub memory_type : Production MemoryType
memory_type = made memory_type_of (seq limits_type (seq (flag (codes "shared")) pagesize_or_none))

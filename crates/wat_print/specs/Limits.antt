-- How limits, memory types and table types are written.
use Rattle.std.specs.Prelude.{◌≡◌, ℕ, ◌^◌, Bool, true, false, nat_lt, List, ◌∷◌, Option, codes, decimal, ◌⊎◌}
use Rattle.std.proofs.Common.{inl, inr}
use Rattle.wat_types.specs.Prelude.{Token, Integer, begins_word, begins_group, begins_integer, TableTypeModel, RefTypeModel}
use Rattle.wat_types.specs.declared.limits.Limits.{Limits}
use Rattle.wat_types.specs.declared.limits.MemoryType.{MemoryType}
use Rattle.wat_print.specs.Form.{Test, Form, token_form, word_form, flag_form, seq_form, option_form, by, by_where, else_form, group_form, behind_form}
use Rattle.wat_print.specs.Parts.{spell_flag}
use Rattle.wat_print.specs.Reference.{ref_form}

-- a number of 64 bits
abbrev pub is_u64 : ℕ → Bool
is_u64 n = nat_lt n (2 ^ 64)

-- 2^k is a number of 32 bits
abbrev pub is_exponent : ℕ → Bool
is_exponent k = nat_lt k 32

abbrev pub OfIntegers : Test → Test → Type 0
OfIntegers rest test = (x : List ℕ) (y : List Token) → rest y ≡ true → test (Integer x ∷ y) ≡ true

abbrev pub number_form : Form ℕ
number_form = token_form (λ n. Integer (decimal n)) is_u64 OfIntegers

-- `i64`, or nothing
abbrev pub width_parts : Bool → Unit {0} ⊎ Bool
width_parts true = inl tt
width_parts false = inr false

abbrev pub width_form : Form Bool
width_form =
    record (by_where (λ _. true) width_parts (else_form (begins_word (codes "i64"))
    (word_form (codes "i64")) (flag_form (codes "i32")))) { spell = spell_flag (codes "i64") }

abbrev pub limits_parts : Limits → Bool × (ℕ × Option ℕ)
limits_parts l = (l.is64, (l.min, l.max))

-- i64? min max?
abbrev pub limits_form : Form Limits
limits_form =
    by limits_parts (behind_form begins_integer width_form
    (seq_form number_form (option_form begins_integer number_form)))

abbrev pub exponent_form : Form ℕ
exponent_form = token_form (λ k. Integer (decimal (2 ^ k))) is_exponent OfIntegers

-- ( pagesize 2^k )?
abbrev pub page_form : Form (Option ℕ)
page_form =
    option_form (begins_group (codes "pagesize")) (group_form (codes "pagesize") exponent_form)

abbrev pub memory_parts : MemoryType → Limits × (Bool × Option ℕ)
memory_parts m = (m.limits, (m.shared, m.page_size_log2))

abbrev pub memory_form : Form MemoryType
memory_form =
    by memory_parts (seq_form limits_form (seq_form (flag_form (codes "shared")) page_form))

abbrev pub table_parts : TableTypeModel → Bool × (Limits × RefTypeModel)
table_parts t = (t.shared, (t.limits, t.elem))

abbrev pub table_form : Form TableTypeModel
table_form =
    by table_parts (seq_form (flag_form (codes "shared")) (seq_form limits_form ref_form))

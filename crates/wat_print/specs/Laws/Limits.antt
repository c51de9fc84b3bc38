-- Laws: limits, memory types and table types are read again.
use Rattle.std.proofs.Common.{rules, arith, subst, ◌≡◌, ℕ, ◌^◌, ◌-◌, ◌<◌, ◌≤◌, Bool, true, false, nat_lt, List, [], ◌∷◌, Some, codes, decimal, refl}
use Rattle.wat_types.specs.Prelude.{pow_mono, lt-ltb, ltb-true, nat_tests, limits_type, page_exponent, pagesize, pagesize_or_none, memory_type, ExponentSpells}
use Rattle.wat_print.specs.Prelude.{Token, LParen, Integer, unsigned, unsigned_of, begins_integer, at_group, at_integer, at_word, is_64, table_type_of, table_type, is_u64, OfIntegers, width_form, limits_form, page_form, memory_form, table_parts, table_form, Prints, is_given, is_printable, each, spell_flag}
use Rattle.wat_types.specs.Limits.{limits_of, memory_type_of}
use Rattle.wat_print.specs.Limits.{is_exponent, number_form, width_parts, exponent_form, limits_parts, memory_parts}
use Rattle.wat_print.specs.Laws.Form.{behind_prints, one_prints, word_prints, flag_prints, seq_prints, made_prints, whole_prints, whole_where, respelled, else_prints, option_prints, group_prints}
use Rattle.wat_print.specs.Laws.Numbers.{decimal_printable, unsigned_decimal, unsigned_fits}
use Rattle.wat_print.specs.Laws.Parts.{well_formed_one}
use Rattle.wat_print.specs.Laws.Reference.{ref_prints}

-- ---- numbers

u64_printable : (n : ℕ) → is_u64 n ≡ true → is_printable (Integer (decimal n)) ≡ true
u64_printable n h = decimal_printable n (ltb-true n (2 ^ 64) h)

u64_reads : (n : ℕ) → is_u64 n ≡ true → unsigned_of 64 (Integer (decimal n)) ≡ Some n
u64_reads n h = let lt = ltb-true n (2 ^ 64) h in unsigned_decimal 64 n lt (omega arith)

u64_given : (t : Token) (n : ℕ) → is_given t ≡ true → unsigned_of 64 t ≡ Some n → is_u64 n ≡ true
u64_given (Integer x) n a e = let le = unsigned_fits 64 x n e in lt-ltb n (2 ^ 64) (omega arith)
u64_given LParen n a e = absurd cc
u64_given _ n a e = absurd cc

pub number_prints : Prints number_form (unsigned 64)
number_prints =
    one_prints (unsigned_of 64) (refl, refl) (λ n. Integer (decimal n)) is_u64 OfIntegers
    (λ rest test f n y h k. f (decimal n) y k) u64_printable u64_reads u64_given

-- ---- limits

pub width_prints : Prints width_form is_64
unfolding is_64
width_prints =
    respelled (whole_where (else_prints (at_word (codes "i64"))
    (made_prints (word_prints (codes "i64") refl refl) (λ _. true))
    (made_prints (flag_prints (codes "i32") refl refl) (λ _. false)) (search rules) (search rules))
    width_parts (λ _. true) (λ b h. grind arith) (λ b h. grind arith) (λ v h. refl))
    (spell_flag (codes "i64")) (λ b h. grind arith)

pub limits_prints : Prints limits_form limits_type
unfolding limits_type
limits_prints =
    whole_prints (made_prints (behind_prints begins_integer width_prints (seq_prints number_prints
    (option_prints at_integer number_prints (search rules)) (search rules)) (search rules)
    (search rules)) limits_of) limits_parts (λ l h. refl) (λ l h. h) (λ v h. h)

-- ---- page sizes

power_below : (k : ℕ) → k < 32 → 2 ^ k ≤ 2 ^ 31
power_below k lt = pow_mono {i = k} {j = 31} (omega arith)

below_by : (k : ℕ) (b : Bool) → nat_lt k 32 ≡ b → 2 ^ k ≤ 2 ^ 32 - 1 → k < 32
below_by k true e h = ltb-true k 32 e
below_by k false e h =
    let ge : 32 ≤ k = grind (arith, nat_tests) in
    absurd (omega (arith, pow_mono {i = 32} {j = k} ge))

not_above : (k : ℕ) → 2 ^ k ≤ 2 ^ 32 - 1 → k < 32
not_above k h = below_by k (nat_lt k 32) refl h

u32_given : (t : Token) (n : ℕ) → unsigned_of 32 t ≡ Some n → n ≤ 2 ^ 32 - 1
u32_given (Integer x) n e = unsigned_fits 32 x n e
u32_given LParen n e = absurd cc
u32_given _ n e = absurd cc

exponent_fits : (k : ℕ) → is_exponent k ≡ true → is_printable (Integer (decimal (2 ^ k))) ≡ true
exponent_fits k h =
    let le = power_below k (ltb-true k 32 h) in decimal_printable (2 ^ k) (omega arith)

exponent_here : (k : ℕ) (r : List Token) → is_exponent k ≡ true
    → ExponentSpells k (Integer (decimal (2 ^ k)) ∷ []) r
exponent_here k r h =
    let le = power_below k (ltb-true k 32 h) in (
      2 ^ k,
      (Integer (decimal (2 ^ k)), refl, unsigned_decimal 32 (2 ^ k) (omega arith) (omega arith)),
      refl,
    )

exponent_only : (k : ℕ) (c r : List Token) → each is_given c ≡ true → ExponentSpells k c r
    → is_exponent k ≡ true
exponent_only k c r a s =
    let le = u32_given s.1.0 s.0 s.1.2 in
    lt-ltb k 32 (not_above k (subst (λ (n : ℕ). n ≤ 2 ^ 32 - 1) s.2 le))

exponent_prints : Prints exponent_form page_exponent
unfolding page_exponent
exponent_prints = record {
  nests = λ k h. well_formed_one (Integer (decimal (2 ^ k))) (exponent_fits k h);
  front = λ rest test f k r h i e. f (decimal (2 ^ k)) r i;
  here = λ k r h e. exponent_here k r h;
  only = λ k c r a s. (k, refl, exponent_only k c r a s);
}

pub page_prints : Prints page_form pagesize_or_none
unfolding pagesize_or_none pagesize
page_prints =
    option_prints (at_group (codes "pagesize"))
    (group_prints exponent_prints (codes "pagesize") refl refl) (search rules)

-- ---- memory types and table types

pub memory_prints : Prints memory_form memory_type
unfolding memory_type
memory_prints =
    whole_prints (made_prints (seq_prints limits_prints
    (seq_prints (flag_prints (codes "shared") refl refl) page_prints (search rules))
    (search rules)) memory_type_of) memory_parts (λ m h. refl) (λ m h. h) (λ v h. h)

pub table_prints : Prints table_form table_type
unfolding table_type
table_prints =
    whole_prints (made_prints (seq_prints (flag_prints (codes "shared") refl refl)
    (seq_prints limits_prints ref_prints (search rules)) (search rules)) table_type_of)
    table_parts (λ t h. refl) (λ t h. h) (λ v h. h)

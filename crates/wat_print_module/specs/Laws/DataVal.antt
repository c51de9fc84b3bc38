-- Laws: the values of data segments are read again.
use Rattle.std.proofs.Common.{◌%◌, ◌/◌, ◌≡◌, ℕ, ℤ, zero, suc, pos, negsuc, ◌-◌, ◌-ℤ◌, ◌<◌, ◌≤◌, ◌^◌, true, nat_lt, nat_le, List, [], ◌∷◌, map, flat_map, codes, Some, decimal, refl, rules, ap, subst, sym, ◌∙◌, arith, lit≤}
use Rattle.std.specs.Int.{Width, w8, w16, w32, w64, cast_unsigned, to_le_bytes, bytes_low_first, byte_at}
use Rattle.wat_core.specs.Prelude.{written, numbers, data_val, data_vals}
use Rattle.wat_print_instr.specs.Laws.Prelude.{cond_both, ltb-true, nat_tests, decimal_is_IsNumeral, ints, signed_value, twos_complement, Integer, signed, all_of, joined, Production, at_lparen, at_more, at_word, v128_const, by_itself, each, Unparses, Prints, is_byte, made_prints, whole_where, whole_prints, else_prints, many_prints, paren_prints, after_prints, decimal_printable, magnitude_decimal, no_sign, OnlyPrintable, only_where, only_made, only_weaker, well_formed_one, each_both, each_all, string_prints}
use Rattle.wat_operands.specs.Vector.{bytes_of, lane_width, lane_numbers}
use Rattle.wat_print.specs.Laws.Form.{many_seen}
use Rattle.wat_print.specs.Laws.Only.{only_any, only_many, only_after}
use Rattle.wat_fields.specs.Laws.DataVal.{data_val_consumes}
use Rattle.wat_fields.specs.Laws.Numbers.{vector_consumes}
use Rattle.wat_fields.specs.Numbers.{integer_bytes, integer_as_bytes, float_as_bytes, all_behind, other_numbers, wide_numbers, number_list}
use Rattle.wat_fields.specs.VectorBytes.{vector_as_bytes}
use Rattle.wat_print.specs.Laws.Bytes.{byte_is}
use Rattle.wat_print_instr.specs.Laws.Vectors.{none_only}
use Rattle.wat_print_module.specs.DataVal.{byte_form, bytes_form, data_val_parts, data_val_form, data_vals_form}
use Rattle.wat_print_module.specs.Laws.Forms.{first_prints}

-- ---- a byte, as a number of 8 bits

-- a signed number of 8 bits with the bits of b gives b
bits_back : (b : ℕ) → b < 256 → cast_unsigned w8 (twos_complement 8 b) ≡ b
bits_back b lt =
    cond_both (nat_lt b 128) (pos b) (pos b -ℤ pos 256) (λ (z : ℤ). cast_unsigned w8 z ≡ b)
    (λ e. refl)
    (λ e.
    (let gap : pos b -ℤ pos 256 ≡ negsuc (256 - suc b) = omega (arith, ints) in
    let back : 256 - suc (256 - suc b) ≡ b = omega arith in
    subst (λ (z : ℤ). cast_unsigned w8 z ≡ b) (sym gap) back))

byte_alone : (b : ℕ) → b < 256 → to_le_bytes w8 b ≡ by_itself b
byte_alone b lt = let e : b % 256 ≡ b = omega arith in ap (λ (n : ℕ). by_itself n) e

byte_back : (b : ℕ) → b < 256 → integer_bytes w8 (twos_complement 8 b) ≡ by_itself b
byte_back b lt =
    ap (λ (n : ℕ). to_le_bytes w8 n) (bits_back b lt) ∙ byte_alone b lt

byte_text : (b : ℕ) → b < 256 → signed_value 8 (decimal b) ≡ Some (twos_complement 8 b)
byte_text b lt =
    let low : b < 2 ^ 64 = omega arith in
    let d = decimal_is_IsNumeral b low in
    let s = no_sign (decimal b) d.0.1 in
    let e : nat_le b (2 ^ 8 - 1) ≡ true = grind (arith, nat_tests) in
    rw (s.0, s.1, magnitude_decimal b low, e) refl

byte_at_is : (i n : ℕ) → is_byte (byte_at i n) ≡ true
byte_at_is zero n = byte_is (n % 256) (omega arith)
byte_at_is (suc i) n = byte_is (n / 256 ^ suc i % 256) (omega arith)

byte_prints : Unparses byte_form by_itself (integer_as_bytes w8 8)
byte_prints = record {
  nests = λ b h. (let lt = ltb-true b 256 h in
      well_formed_one (Integer (decimal b)) (decimal_printable b (omega arith)));
  front = λ rest test f b r h i e. f (decimal b) r i;
  here = λ b r h e. (
      let lt = ltb-true b 256 h in (
        twos_complement 8 b,
        (Integer (decimal b), refl, byte_text b lt),
        refl,
        byte_back b lt,
      ));
  only = λ bs c r a s.
      (let n = cast_unsigned w8 s.0 in (byte_at 0 n, s.3, byte_at_is 0 n));
}

-- ---- all bytes

bytes_each : (bs : List ℕ) → all_of (map by_itself bs) ≡ bs
bytes_each [] = refl
bytes_each (b ∷ bs) = ap (λ (l : List ℕ). b ∷ l) (bytes_each bs)

bytes_prints : Prints bytes_form (joined at_more (integer_as_bytes w8 8) (lit≤ tt))
bytes_prints =
    whole_where (made_prints (many_seen at_more byte_prints (lit≤ tt) (search rules) (search rules))
    (λ gs. all_of gs)) (λ bs. bs) (each is_byte) (λ bs h. bytes_each bs) (λ bs h. h)
    (λ bs h. rw (bytes_each bs) h)

-- ---- numbers of other widths are read, but never written

low_first_are : (i k n : ℕ) → each is_byte (bytes_low_first i k n) ≡ true
low_first_are i zero n = refl
low_first_are i (suc k) n = rw (byte_at_is i n) (low_first_are (suc i) k n)

le_bytes_are : (w : Width) (n : ℕ) → each is_byte (to_le_bytes w n) ≡ true
le_bytes_are w n = low_first_are 0 _ n

integer_only : (w : Width) (n : ℕ) → OnlyPrintable (integer_as_bytes w n) (each is_byte)
integer_only w n =
    only_made (λ _. true) (integer_bytes w) (each is_byte)
    (only_weaker (λ z. each is_byte (integer_bytes w z))
    (λ z h. (le_bytes_are w (cast_unsigned w z))) (only_any (signed n)))

float_only : (w : Width) → OnlyPrintable (float_as_bytes w) (each is_byte)
float_only w =
    only_made (λ _. true) (to_le_bytes w) (each is_byte)
    (none_only (λ n. each is_byte (to_le_bytes w n)))

lanes_are : (w : Width) (ns : List ℕ) → each is_byte (flat_map (to_le_bytes w) ns) ≡ true
lanes_are w [] = refl
lanes_are w (n ∷ ns) =
    each_both is_byte (to_le_bytes w n) (flat_map (to_le_bytes w) ns) (le_bytes_are w n)
    (lanes_are w ns)

vector_bytes_only : OnlyPrintable vector_as_bytes (each is_byte)
vector_bytes_only =
    only_made (λ _. true) bytes_of (each is_byte)
    (only_weaker (λ v. each is_byte (bytes_of v))
    (λ v h. (lanes_are (lane_width v) (lane_numbers v))) (only_any v128_const))

behind_only : {g : Production (List ℕ)} (w : List ℕ) (consumes : 1 ≤ g.least)
    → OnlyPrintable g (each is_byte) → OnlyPrintable (all_behind w g consumes) (each is_byte)
behind_only w consumes m =
    only_after w (only_made (λ _. true) (λ gs. all_of gs) (each is_byte)
    (only_weaker (λ gs. each is_byte (all_of gs)) (λ gs h. each_all is_byte gs h)
    (only_many at_more consumes m)))

other_only : OnlyPrintable other_numbers (each is_byte)
unfolding other_numbers
other_only =
    only_where (at_word (codes "f32")) (behind_only (codes "f32") (lit≤ tt) (float_only w32))
    (only_where (at_word (codes "f64")) (behind_only (codes "f64") (lit≤ tt) (float_only w64))
    (behind_only (codes "v128") vector_consumes vector_bytes_only))

wide_numbers_only : OnlyPrintable wide_numbers (each is_byte)
unfolding wide_numbers
wide_numbers_only =
    only_where (at_word (codes "i32"))
    (behind_only (codes "i32") (lit≤ tt) (integer_only w32 32))
    (only_where (at_word (codes "i64"))
    (behind_only (codes "i64") (lit≤ tt) (integer_only w64 64)) other_only)

-- ---- values

pub data_val_prints : Prints data_val_form data_val
unfolding data_val number_list
data_val_prints =
    whole_prints (else_prints at_lparen (made_prints (paren_prints
    (first_prints (at_word (codes "i8")) (after_prints bytes_prints (codes "i8") refl refl)
    (λ bs r. refl) (only_where (at_word (codes "i16"))
    (behind_only (codes "i16") (lit≤ tt) (integer_only w16 16)) wide_numbers_only))) numbers)
    (made_prints string_prints written) (search rules) (search rules)) data_val_parts
    (λ v h. grind arith) (λ v h. h) (λ v h. grind arith)

pub data_vals_prints : Prints data_vals_form data_vals
unfolding data_vals
data_vals_prints =
    many_prints at_more data_val_prints data_val_consumes (search rules) (search rules)

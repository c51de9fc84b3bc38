-- Common tokens, by their first byte and the end of their bytes.
use Rattle.std.proofs.Common.{◌≡◌, ℕ, zero, suc, ◌+◌, ◌-◌, ◌*◌, ◌<◌, ◌≤◌, List, [], ◌∷◌, length, drop, get_or, refl, ap, sym, ◌∙◌, arith, inl, inr, append-nil, length-take, length-drop, Bool, true, false, ◌⊎◌, slice_range, ◌==◌, not, Some, is_some, nat_lt, IsTrue}
use Rattle.wat_lexer.specs.Laws.Prelude.{drop_of_length-le, eqb-true, digit_value, and-false, cases_lt, nat_tests, is_idchar, between, begins, in_no_run, is_hex, read, begins_hex, is_integer, Keyword, Id, Integer, Placed, all_idchars, class, string_at, with_front, rest_at, behind_run, front, run_front, TokenTo, Between, Ends, Raw, class_complete, ends_here, at_front}
use Rattle.wat_lexer.specs.Laws.Classes.{idchars_sound}
use Rattle.wat_lexer.specs.View.{PieceIs}
use Rattle.wat_lexer.specs.Laws.Fronts.{in_run_front}
use Rattle.wat_lexer.proofs.FrontAt.{front_step, run_token}
use Rattle.wat_lexer.proofs.Plain.{slice_front, all_tail}
use Rattle.wat_lexer.proofs.Steps.{run_over, run_quote, slice_none, string_step}
use Rattle.wat_lexer.proofs.Tables.{Below, below_none, below_more, below_joined}
use Rattle.wat_lexer.proofs.Whole.{class_string}
use Rattle.wat_lexer.specs.declared.lexeme.Kind.TheVariants as kinds

-- THE END OF A RUN

pub stops_here : (i : ℕ) (s : List ℕ) → (i < length s → in_no_run (get_or s i 0) ≡ true) → behind_run Between (drop i s) ≡ Ends (drop i s)
stops_here i s stops = elim (cases_lt i (length s)) [
  | inl l ↦ rw (at_front i s l) (ends_here (get_or s i 0 ∷ drop (i + 1) s) (stops l))
  | inr g ↦ run_over i s g
]

-- after all idchars, if no string begins there
pub word_stops : (i : ℕ) (s : List ℕ) → (i < length s → is_idchar (get_or s i 0) ≡ false) → begins 34 (drop i s) ≡ false → behind_run Between (drop i s) ≡ Ends (drop i s)
word_stops i s stops quote = stops_here i s (λ l.
    let no_idchar = stops l in
    let no_quote : (get_or s i 0 == 34) ≡ false = rw (at_front i s l) at quote in
    rw (no_idchar, no_quote))

pub word_front : (at end : ℕ) (s : List ℕ) → at < end → end ≤ length s → is_idchar (get_or s at 0) ≡ true → all_idchars (slice_range s (at + 1) end) ≡ true → all_idchars (slice_range s at end) ≡ true
unfolding all_idchars
word_front at end s order within first rest = rw (slice_front at end s order within, first) rest

-- DIGITS

abbrev pub Digit : List ℕ → ℕ → Type 0
Digit s k = between 48 57 (get_or s k 0) ≡ true

pub digit_idchar : (b : ℕ) → between 48 57 b ≡ true → is_idchar b ≡ true
digit_idchar b h = grind (arith, nat_tests)

digit_low : (b : ℕ) → between 48 57 b ≡ true → nat_lt (digit_value b) 10 ≡ true
digit_low b h = grind (arith, nat_tests)

-- after a digit, all digits of the base are read
digits_read : (base d i end n : ℕ) (s : List ℕ) → i + d ≡ end → end ≤ length s → Below (λ k. nat_lt (digit_value (get_or s k 0)) base ≡ true) i end → is_some (read base true n (slice_range s i end)) ≡ true
unfolding read
digits_read base zero i end n s e within below = let same : end ≡ i = omega arith in rw (same, slice_none i s)
digits_read base (suc d) i end n s e within below =
    let b = get_or s i 0 in
    rw (slice_front i end s (omega arith) within, below i (omega arith) (omega arith))
    (digits_read base d (i + 1) end (n * base + digit_value b) s (omega arith) within (λ k lt le. below k lt (omega arith)))

no_letter : (i end : ℕ) (s : List ℕ) → i ≤ end → end ≤ length s → Below (Digit s) i end → begins 120 (slice_range s i end) ≡ false
no_letter i end s order within below = elim (cases_lt i end) [
  | inl l ↦ (let digit : between 48 57 (get_or s i 0) ≡ true = below i l (omega arith) in
      let other : (get_or s i 0 == 120) ≡ false = grind (arith, nat_tests) in
      rw (slice_front i end s l within, other))
  | inr g ↦ (let same : end ≡ i = omega arith in rw (same, slice_none i s))
]

no_hex : (a : ℕ) (t : List ℕ) → begins 120 t ≡ false → begins_hex (a ∷ t) ≡ false
no_hex a [] h = refl
no_hex a (c ∷ t) h = rw h (and-false (a == 48))

pub digits_integer : (at end : ℕ) (s : List ℕ) → at < end → end ≤ length s → Below (Digit s) at end → is_integer (slice_range s at end) ≡ true
unfolding read
digits_integer at end s order within below =
    let b = get_or s at 0 in
    let rest = slice_range s (at + 1) end in
    let digit : between 48 57 b ≡ true = below at order (omega arith) in
    let no_plus : (b == 43) ≡ false = grind (arith, nat_tests) in
    let no_minus : (b == 45) ≡ false = grind (arith, nat_tests) in
    let behind : Below (Digit s) (at + 1) end = λ k lt le. below k lt (omega arith) in
    let decimal : begins_hex (b ∷ rest) ≡ false = no_hex b rest (no_letter (at + 1) end s (omega arith) within behind) in
    rw (slice_front at end s order within, no_plus, no_minus, decimal, digit_low b digit)
    (digits_read 10 (end - (at + 1)) (at + 1) end (0 * 10 + digit_value b) s (omega arith) within (λ k lt le. digit_low (get_or s k 0) (behind k lt le)))

hex_idchar : (b : ℕ) → is_hex b ≡ true → is_idchar b ≡ true
hex_idchar b h = grind (arith, nat_tests)

pub hex_idchars : (at end : ℕ) (s : List ℕ) → get_or s at 0 ≡ 48 → get_or s (at + 1) 0 ≡ 120 → Below (λ k. is_hex (get_or s k 0) ≡ true) (at + 2) end → Below (λ k. is_idchar (get_or s k 0) ≡ true) at end
hex_idchars at end s first_is second_is below =
    let P : ℕ → Type 0 = λ k. is_idchar (get_or s k 0) ≡ true in
    let one = below_more P at at (at + 1) refl (below_none P at) (rw first_is) in
    let two = below_more P at (at + 1) (at + 2) (omega arith) one (rw second_is) in
    below_joined P at (at + 2) end two (λ k lt le. hex_idchar (get_or s k 0) (below k lt le))

pub hex_integer : (at end : ℕ) (s : List ℕ) → at + 2 < end → end ≤ length s → get_or s at 0 ≡ 48 → get_or s (at + 1) 0 ≡ 120 → Below (λ k. is_hex (get_or s k 0) ≡ true) (at + 2) end → is_integer (slice_range s at end) ≡ true
unfolding read
hex_integer at end s order within first_is second_is below =
    let here = get_or s (at + 2) 0 in
    let two : at + 1 + 1 ≡ at + 2 = omega arith in
    let three : at + 2 + 1 ≡ at + 3 = omega arith in
    let first : slice_range s at end ≡ 48 ∷ slice_range s (at + 1) end = slice_front at end s (omega arith) within ∙ ap (λ b. b ∷ slice_range s (at + 1) end) first_is in
    let second : slice_range s (at + 1) end ≡ 120 ∷ slice_range s (at + 2) end = rw two at (slice_front (at + 1) end s (omega arith) within) ∙ ap (λ b. b ∷ slice_range s (at + 2) end) second_is in
    let third : slice_range s (at + 2) end ≡ here ∷ slice_range s (at + 3) end = rw three at (slice_front (at + 2) end s order within) in
    rw (first, second, third, below (at + 2) order (omega arith))
    (digits_read 16 (end - (at + 3)) (at + 3) end (0 * 16 + digit_value here) s (omega arith) within (λ k lt le. below k lt (omega arith)))

-- TOKENS IN FRONT

token_here : (behind : Bool) (at end : ℕ) (s : List ℕ) → at < end → end ≤ length s → (is_idchar (get_or s at 0) ≡ true) ⊎ (get_or s at 0 ≡ 34) → behind_run Between (drop at s) ≡ Ends (drop end s) → front behind (drop at s) ≡ TokenTo (class behind (slice_range s at end)) (drop end s)
token_here behind at end s order within first run =
    let here : front behind (drop at s) ≡ run_front behind (drop at s) (behind_run Between (drop at s)) = rw (at_front at s (omega arith)) (in_run_front behind (get_or s at 0) (drop (at + 1) s) first) in
    here ∙ run_token behind at end s (behind_run Between (drop at s)) order within run

-- the first byte is an idchar
first_idchar : (at end : ℕ) (s : List ℕ) → at < end → end ≤ length s → all_idchars (slice_range s at end) ≡ true → is_idchar (get_or s at 0) ≡ true
first_idchar at end s order within all = (all_tail (get_or s at 0) (slice_range s (at + 1) end) (rw (slice_front at end s order within) at all)).0

pub keyword_piece : (behind : Bool) (lie : List Placed) (at end : ℕ) (s : List ℕ) → at < end → end ≤ length s → between 97 122 (get_or s at 0) ≡ true → all_idchars (slice_range s at end) ≡ true → behind_run Between (drop at s) ≡ Ends (drop end s)
    → PieceIs s lie lie at (record { kind = Some kinds.Keyword; end = end }) (front behind (drop at s))
keyword_piece behind lie at end s order within low all run =
    let x = slice_range s at end in
    let is : class behind x ≡ Keyword x = class_complete behind x (Keyword x) (refl, idchars_sound x all, get_or s at 0, slice_range s (at + 1) end, slice_front at end s order within, low) in
    (token_here behind at end s order within (inl (first_idchar at end s order within all)) run ∙ ap (λ t. TokenTo t (drop end s)) is, (omega arith, within, all), refl)

pub id_piece : (behind : Bool) (lie : List Placed) (at end : ℕ) (s : List ℕ) → at + 1 < end → end ≤ length s → get_or s at 0 ≡ 36 → all_idchars (slice_range s at end) ≡ true → behind_run Between (drop at s) ≡ Ends (drop end s)
    → PieceIs s lie lie at (record { kind = Some kinds.Id; end = end }) (front behind (drop at s))
id_piece behind lie at end s order within mark all run =
    let x = slice_range s at end in
    let n = slice_range s (at + 1) end in
    let short : at < end = omega arith in
    let front = slice_front at end s short within in
    let rest = (all_tail (get_or s at 0) n (rw front at all)).1 in
    let is : class behind x ≡ Id n = class_complete behind x (Id n) (n, front ∙ ap (λ b. b ∷ n) mark, omega (arith, length-take (end - (at + 1)) (drop (at + 1) s), length-drop (at + 1) s), inl (refl, idchars_sound n rest)) in
    (token_here behind at end s short within (inl (first_idchar at end s short within all)) run ∙ ap (λ t. TokenTo t (drop end s)) is, (order, within, all), refl)

pub integer_piece : (behind : Bool) (lie : List Placed) (at end : ℕ) (s : List ℕ) → at < end → end ≤ length s → is_integer (slice_range s at end) ≡ true → all_idchars (slice_range s at end) ≡ true → behind_run Between (drop at s) ≡ Ends (drop end s)
    → PieceIs s lie lie at (record { kind = Some kinds.Integer; end = end }) (front behind (drop at s))
integer_piece behind lie at end s order within integer all run =
    let x = slice_range s at end in
    let is : class behind x ≡ Integer x = class_complete behind x (Integer x) (refl, idchars_sound x all, integer) in
    (token_here behind at end s order within (inl (first_idchar at end s order within all)) run ∙ ap (λ t. TokenTo t (drop end s)) is, (omega arith, within, all), refl)

pub string_piece : (behind : Bool) (lie : List Placed) (at end : ℕ) (s : List ℕ) → at + 1 < end → end ≤ length s → get_or s at 0 ≡ 34 → string_at Raw (drop (at + 1) s) ≡ Some (slice_range s (at + 1) (end - 1), drop end s) → behind_run Between (drop at s) ≡ Ends (drop end s)
    → PieceIs s lie lie at (record { kind = Some kinds.String; end = end }) (front behind (drop at s))
string_piece behind lie at end s order within mark content run =
    let short : at < end = omega arith in
    let is = class_string behind at end (slice_range s (at + 1) (end - 1)) s short within mark content in
    (token_here behind at end s short within (inr mark) run ∙ ap (λ t. TokenTo t (drop end s)) is, (order, within), refl)

pub open_piece : (behind : Bool) (lie : List Placed) (at : ℕ) (s : List ℕ) → at < length s → get_or s at 0 ≡ 40 → begins 59 (drop (at + 1) s) ≡ false
    → PieceIs s lie lie at (record { kind = Some kinds.LParen; end = at + 1 }) (front behind (drop at s))
open_piece behind lie at s lt mark none = (front_step behind at s lt ∙ rw (mark, none), tt, refl)

pub close_piece : (behind : Bool) (lie : List Placed) (at : ℕ) (s : List ℕ) → at < length s → get_or s at 0 ≡ 41
    → PieceIs s lie lie at (record { kind = Some kinds.RParen; end = at + 1 }) (front behind (drop at s))
close_piece behind lie at s lt mark = (front_step behind at s lt ∙ rw mark, tt, refl)

-- A STRING WITHOUT ESCAPES

begins_there : (b i : ℕ) (s : List ℕ) → begins b (drop i s) ≡ true → (i < length s) × (get_or s i 0 ≡ b)
begins_there b i s h = elim (cases_lt i (length s)) [
  | inl l ↦ (l, eqb-true (get_or s i 0) b (rw (at_front i s l) at h))
  | inr g ↦ (let none = rw (drop_of_length-le s g) at h in cc)
]

pub plain_content : (from quote : ℕ) (s : List ℕ) → begins 34 (drop quote s) ≡ true → string_at Raw (drop from s) ≡ with_front (slice_range s from quote) (string_at Raw (drop quote s))
    → string_at Raw (drop from s) ≡ Some (slice_range s from (quote + 1 - 1), drop (quote + 1) s)
plain_content from quote s h raw =
    let (lt, mark) = begins_there 34 quote s h in
    let close : string_at Raw (drop quote s) ≡ Some ([], drop (quote + 1) s) = string_step Raw quote s lt ∙ rw mark in
    let back : quote + 1 - 1 ≡ quote = omega arith in
    raw ∙ rw (close, back, append-nil)

pub plain_string_run : (at end : ℕ) (c s : List ℕ) → at < length s → get_or s at 0 ≡ 34 → string_at Raw (drop (at + 1) s) ≡ Some (c, drop end s) → behind_run Between (drop at s) ≡ behind_run Between (drop end s)
unfolding rest_at
plain_string_run at end c s lt mark content = run_quote at s lt mark ∙ rw content

-- a byte that is neither an idchar nor a quote
pub no_run_byte : (b : ℕ) (marked : Bool) → marked ≡ is_idchar b → IsTrue (not marked) → (b ≡ 34 → ⊥) → in_no_run b ≡ true
no_run_byte b true e h other = cc
no_run_byte b false e h other =
    let no_idchar : is_idchar b ≡ false = sym e in
    let no_quote : (b == 34) ≡ false = grind (arith, nat_tests) in
    rw (no_idchar, no_quote)

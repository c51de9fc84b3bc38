-- The tables of bytes, and the search for the first byte that a table doesn't mark.
use Rattle.std.proofs.Common.{◌≡◌, ℕ, zero, suc, ◌+◌, ◌<◌, ◌≤◌, List, Bool, true, false, length, drop, get_or, map, refl, ap, subst, sym, ◌∙◌, arith, inl, inr, slice_range, ◌==◌, ◌||◌, not}
use Rattle.std.specs.List.{range_with_len}
use Rattle.std.proofs.lemmas.List.FromFn.{get_or-map-range_with_len}
use Rattle.wat_lexer.specs.Laws.Prelude.{digit_value, cases_lt, nat_tests, is_idchar, is_space, is_line_end, between, is_raw, is_hex, Between, Raw, behind_run, behind_spaces, behind_line, behind_comment, all_idchars, string_at, with_front}
use Rattle.wat_lexer.specs.declared.byte_table.TheConstants.{SPACES, IDCHARS, DIGITS, HEX_DIGITS, DIGIT_VALUES, RAW, IN_LINE, IN_COMMENT}
use Rattle.wat_lexer.proofs.Steps.{plain_none, plain_more, run_idchar, space_step, space_over, raw_none, raw_more, line_step, line_over, comment_step, comment_none}

-- THE TABLES

-- the item of a table at a byte, if the table has the values of a function at all bytes
table_at : {A : Type 0} (f : ℕ → A) (other : A) (table : List A) → table ≡ map f (range_with_len 0 256) → (b : ℕ) → b < 256 → get_or table b other ≡ f b
table_at f other table same b lt = ap (λ (xs : List _). get_or xs b other) same ∙ get_or-map-range_with_len f 0 256 b b other lt (omega arith)

pub space_at : (b : ℕ) → b < 256 → get_or SPACES b false ≡ is_space b
space_at = table_at is_space false SPACES refl

pub idchar_at : (b : ℕ) → b < 256 → get_or IDCHARS b false ≡ is_idchar b
idchar_at = table_at is_idchar false IDCHARS refl

pub digit_at : (b : ℕ) → b < 256 → get_or DIGITS b false ≡ between 48 57 b
digit_at = table_at (between 48 57) false DIGITS refl

pub hex_at : (b : ℕ) → b < 256 → get_or HEX_DIGITS b false ≡ is_hex b
hex_at = table_at is_hex false HEX_DIGITS refl

pub digit_value_at : (b : ℕ) → b < 256 → get_or DIGIT_VALUES b 0 ≡ digit_value b
digit_value_at = table_at digit_value 0 DIGIT_VALUES refl

pub digit_small : (b : ℕ) → digit_value b ≤ 36
digit_small b = grind (arith, nat_tests)

pub raw_at : (b : ℕ) → b < 256 → get_or RAW b false ≡ is_raw b
raw_at = table_at is_raw false RAW refl

abbrev pub in_line : ℕ → Bool
in_line b = not (is_line_end b)

pub line_at : (b : ℕ) → b < 256 → get_or IN_LINE b false ≡ in_line b
line_at = table_at in_line false IN_LINE refl

abbrev pub in_comment : ℕ → Bool
in_comment b = not ((b == 40) || (b == 59))

pub comment_at : (b : ℕ) → b < 256 → get_or IN_COMMENT b false ≡ in_comment b
comment_at = table_at in_comment false IN_COMMENT refl

-- MARKED BYTES

-- the property holds at each place from one offset on and below another
abbrev pub Below : (ℕ → Type 0) → ℕ → ℕ → Type 0
Below P from end = (k : ℕ) → k < end → from ≤ k → P k

pub below_none : (P : ℕ → Type 0) (from : ℕ) → Below P from from
below_none P from k lt le = absurd (omega arith)

pub below_more : (P : ℕ → Type 0) (from i j : ℕ) → j ≡ i + 1 → Below P from i → P i → Below P from j
below_more P from i j next below here k lt le = elim (cases_lt k i) [
  | inl l ↦ below k l le
  | inr g ↦ (let same : i ≡ k = omega arith in subst P same here)
]

pub below_joined : (P : ℕ → Type 0) (from i end : ℕ) → Below P from i → Below P i end → Below P from end
below_joined P from i end near far k lt le = elim (cases_lt k i) [
  | inl l ↦ near k l le
  | inr g ↦ far k lt g
]

-- the property also holds below any smaller end
below_fewer : (P : ℕ → Type 0) (from i end : ℕ) → i ≤ end → Below P from end → Below P from i
below_fewer P from i end h below k lt le = below k (omega arith) le

pub idchars_to : (d from end : ℕ) (s : List ℕ) → from + d ≡ end → end ≤ length s → Below (λ k. is_idchar (get_or s k 0) ≡ true) from end
    → (all_idchars (slice_range s from end) ≡ true) × (behind_run Between (drop from s) ≡ behind_run Between (drop end s))
idchars_to zero from end s e h below =
    let same : end ≡ from = omega arith in rw same (plain_none from s, refl)
idchars_to (suc d) from end s e h below =
    let last = from + d in
    let next : end ≡ last + 1 = omega arith in
    let here : is_idchar (get_or s last 0) ≡ true = below last (omega arith) (omega arith) in
    let (all, run) = idchars_to d from last s refl (omega arith) (below_fewer (λ k. is_idchar (get_or s k 0) ≡ true) from last end (omega arith) below) in
    rw next (plain_more from last s (omega arith) (omega arith) all here, run ∙ run_idchar last s (omega arith) here)

-- a reader that passes each byte that a test marks passes all of these bytes
reads_over : {A : Type 0} (test : ℕ → Bool) (f : List ℕ → A) (s : List ℕ) → ((i : ℕ) → i < length s → test (get_or s i 0) ≡ true → f (drop i s) ≡ f (drop (i + 1) s))
    → (d from end : ℕ) → from + d ≡ end → end ≤ length s → Below (λ k. test (get_or s k 0) ≡ true) from end → f (drop from s) ≡ f (drop end s)
reads_over test f s step zero from end e h below = let same : end ≡ from = omega arith in rw same
reads_over test f s step (suc d) from end e h below =
    let last = from + d in
    let next : end ≡ last + 1 = omega arith in
    rw next (reads_over test f s step d from last refl (omega arith) (below_fewer (λ k. test (get_or s k 0) ≡ true) from last end (omega arith) below) ∙ step last (omega arith) (below last (omega arith) (omega arith)))

space_byte : (i : ℕ) (s : List ℕ) → i < length s → is_space (get_or s i 0) ≡ true → behind_spaces (drop i s) ≡ behind_spaces (drop (i + 1) s)
space_byte i s lt here = space_step i s lt ∙ rw here

pub spaces_to : (d from end : ℕ) (s : List ℕ) → from + d ≡ end → end ≤ length s → Below (λ k. is_space (get_or s k 0) ≡ true) from end
    → behind_spaces (drop from s) ≡ behind_spaces (drop end s)
spaces_to d from end s = reads_over is_space behind_spaces s (λ i lt here. space_byte i s lt here) d from end

-- if no space is in front, there are no spaces to pass
pub no_spaces : (i : ℕ) (s : List ℕ) → (i < length s → is_space (get_or s i 0) ≡ false) → behind_spaces (drop i s) ≡ drop i s
no_spaces i s stops = elim (cases_lt i (length s)) [
  | inl l ↦ (let none = stops l in space_step i s l ∙ rw none)
  | inr g ↦ space_over i s g
]

pub raw_to : (d from end : ℕ) (s : List ℕ) → from + d ≡ end → end ≤ length s → Below (λ k. is_raw (get_or s k 0) ≡ true) from end
    → string_at Raw (drop from s) ≡ with_front (slice_range s from end) (string_at Raw (drop end s))
raw_to zero from end s e h below = let same : end ≡ from = omega arith in rw same (raw_none from s)
raw_to (suc d) from end s e h below =
    let last = from + d in
    let next : end ≡ last + 1 = omega arith in
    let here : is_raw (get_or s last 0) ≡ true = below last (omega arith) (omega arith) in
    rw next (raw_more from last s (omega arith) (omega arith) here (raw_to d from last s refl (omega arith) (below_fewer (λ k. is_raw (get_or s k 0) ≡ true) from last end (omega arith) below)))

not_so : (b c : Bool) → not b ≡ not c → b ≡ c
not_so true true h = refl
not_so false false h = refl
not_so true false h = cc
not_so false true h = cc

line_byte : (i : ℕ) (s : List ℕ) → i < length s → in_line (get_or s i 0) ≡ true → behind_line (drop i s) ≡ behind_line (drop (i + 1) s)
line_byte i s lt h =
    let here : is_line_end (get_or s i 0) ≡ false = not_so (is_line_end (get_or s i 0)) false h in
    line_step i s lt ∙ rw here

pub lines_to : (d from end : ℕ) (s : List ℕ) → from + d ≡ end → end ≤ length s → Below (λ k. in_line (get_or s k 0) ≡ true) from end
    → behind_line (drop from s) ≡ behind_line (drop end s)
lines_to d from end s = reads_over in_line behind_line s (λ i lt here. line_byte i s lt here) d from end

-- at the end of a line there is nothing of the line to pass
pub no_line : (i : ℕ) (s : List ℕ) → (i < length s → in_line (get_or s i 0) ≡ false) → behind_line (drop i s) ≡ drop i s
no_line i s stops = elim (cases_lt i (length s)) [
  | inl l ↦ (let ends = not_so (is_line_end (get_or s i 0)) true (stops l) in line_step i s l ∙ rw ends)
  | inr g ↦ line_over i s g
]

comment_byte : (depth i : ℕ) (s : List ℕ) → in_comment (get_or s i 0) ≡ true → behind_comment depth (drop i s) ≡ behind_comment depth (drop (i + 1) s)
comment_byte depth i s h = elim (cases_lt (i + 1) (length s)) [
  | inl l ↦ (let no_open : (get_or s i 0 == 40) ≡ false = grind (arith, nat_tests) in
      let no_close : (get_or s i 0 == 59) ≡ false = grind (arith, nat_tests) in
      comment_step depth i s l ∙ rw (no_open, no_close))
  | inr g ↦ comment_none depth i s g ∙ sym (comment_none depth (i + 1) s (omega arith))
]

pub comment_to : (depth d from end : ℕ) (s : List ℕ) → from + d ≡ end → end ≤ length s → Below (λ k. in_comment (get_or s k 0) ≡ true) from end
    → behind_comment depth (drop from s) ≡ behind_comment depth (drop end s)
comment_to depth d from end s = reads_over in_comment (behind_comment depth) s (λ i lt here. comment_byte depth i s here) d from end

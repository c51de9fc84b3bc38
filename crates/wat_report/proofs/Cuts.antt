-- Where a text may be cut.
use Rattle.std.proofs.Common.{◌≡◌, ℕ, ◌+◌, ◌-◌, ◌<◌, ◌≤◌, zero, suc, List, length, get_or, refl, subst, sym, ap, ◌∙◌, arith, Bool, true, false, min}
use Rattle.std.proofs.lemmas.Str.{IsCharBoundary-start}
use Rattle.wat_report.specs.Prelude.{IsUtf8, IsCharBoundary, IsCharBoundary-after_ascii, nat_tests, get_or_past, begins_char, begins_line, char_start, last_up_to}

pub boundary_first : (text : List ℕ) (k : ℕ) → IsUtf8 text → k ≡ 0 → IsCharBoundary text k
boundary_first text k u z = subst (IsCharBoundary text) (sym z) (IsCharBoundary-start text u)

-- a byte that ends a line is ASCII
ascii_before : (text : List ℕ) (k : ℕ) → 0 < k → begins_line text k ≡ true → get_or text (k - 1) 0 < 128
ascii_before text k l h = grind (arith, nat_tests)

boundary_line_later : (text : List ℕ) (k : ℕ) → IsUtf8 text → 0 < k → k ≤ length text → begins_line text k ≡ true → IsCharBoundary text k
boundary_line_later text k u l w h =
    let back : k - 1 + 1 ≡ k = omega arith in
    subst (IsCharBoundary text) back (IsCharBoundary-after_ascii text (k - 1) u (omega arith) (ascii_before text k l h))

-- a line begins where the text may be cut
pub boundary_line : (text : List ℕ) (k : ℕ) → IsUtf8 text → k ≤ length text → begins_line text k ≡ true → IsCharBoundary text k
boundary_line text zero u w h = IsCharBoundary-start text u
boundary_line text (suc k) u w h = boundary_line_later text (suc k) u (omega arith) w h

-- what passes is not behind the last that passes
last_behind_more : (test : ℕ → Bool) (m n : ℕ) (b : Bool) → test (suc n) ≡ b → (m ≤ n → m ≤ last_up_to test n) → m ≤ suc n → test m ≡ true → m ≤ last_up_to test (suc n)
unfolding last_up_to
last_behind_more test m n true e below l h = rw e l
last_behind_more test m n false e below l h =
    let other : m ≡ suc n → ⊥ = λ w. (let same : true ≡ false = sym h ∙ (ap test w ∙ e) in cc) in
    rw e (below (omega arith))

last_behind : (test : ℕ → Bool) (m n : ℕ) → m ≤ n → test m ≡ true → m ≤ last_up_to test n
unfolding last_up_to
last_behind test m zero l h = l
last_behind test m (suc n) l h = last_behind_more test m n (test (suc n)) refl (λ w. last_behind test m n w h) l h

char_here : (text : List ℕ) (k : ℕ) → (128 ≤ get_or text k 0 → 192 ≤ get_or text k 0) → begins_char text k ≡ true
char_here text k h = grind (arith, nat_tests)

-- where the text may be cut a character begins, or the text ends
char_at_boundary : (text : List ℕ) (k : ℕ) → IsCharBoundary text k → begins_char text k ≡ true
char_at_boundary text k boundary =
    char_here text k (λ high. boundary.1 (let more : get_or text k 0 ≡ 0 → ⊥ = omega arith in grind (arith, get_or_past text k 0)) high)

-- a place where the text may be cut is not behind the beginning of a later character
pub char_start_behind : (text : List ℕ) (mark offset : ℕ) → IsCharBoundary text mark → mark ≤ offset → mark ≤ char_start text offset
char_start_behind text mark offset boundary l = last_behind (begins_char text) mark (min offset (length text)) (omega (arith, boundary.0)) (char_at_boundary text mark boundary)

-- behind a `(` the text may be cut
pub at_paren : (text : List ℕ) (k : ℕ) → IsUtf8 text → 0 < k → k ≤ length text → get_or text (k - 1) 0 ≡ 40 → IsCharBoundary text k
at_paren text k u l w h =
    let back : k - 1 + 1 ≡ k = omega arith in
    let ascii : get_or text (k - 1) 0 < 128 = omega (arith, h) in
    subst (IsCharBoundary text) back (IsCharBoundary-after_ascii text (k - 1) u (omega arith) ascii)

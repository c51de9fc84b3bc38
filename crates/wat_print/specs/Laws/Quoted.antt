-- Laws: the text that is written for a string or a name is a string or a name.
use Rattle.std.proofs.Common.{◌≡◌, ℕ, ◌+◌, ◌*◌, ◌/◌, ◌%◌, ◌<◌, Bool, true, ◌&&◌, ◌||◌, nat_lt, List, [], ◌∷◌, ◌++◌, length, ◌⊎◌, refl, ap, subst, arith, inl, inr}
use Rattle.std.specs.Str.{is_utf8}
use Rattle.std.proofs.lemmas.Str.{digit_value-digit_char}
use Rattle.wat_types.specs.Prelude.{digit_char, and_parts, nat_tests, IsUtf8-from_is_utf8}
use Rattle.wat_print.specs.Prelude.{digit_value, IsUtf8, is_idchar, is_raw, is_hex, Element, raw_byte, hex_byte, Str, close, Run, Idchars, Name, escape, quoted_as, quoted, all_are, is_byte, is_name}
use Rattle.wat_lexer.specs.Cut.{more, none, idchar, string, IsString}
use Rattle.wat_print.specs.Text.{name_text}
use Rattle.wat_print.specs.Laws.Bytes.{utf8_bytes}
use Rattle.wat_lexer.specs.Laws.Cases.{if_either}

hex_is : (d : ℕ) → d < 16 → is_hex (digit_char d) ≡ true
hex_is d lt = let e = digit_value-digit_char d (omega arith) in rw e (grind (arith, nat_tests))

byte_is : (b : ℕ) → b < 256 → digit_value (digit_char (b / 16)) * 16 + digit_value
    (digit_char (b % 16)) ≡ b
byte_is b lt =
    let h : b / 16 < 16 = omega arith in
    let l : b % 16 < 16 = omega arith in
    let e = digit_value-digit_char (b / 16) (omega arith) in
    let f = digit_value-digit_char (b % 16) (omega arith) in
    rw (e, f) (omega arith)

escape_is : (utf8 : Bool) (b : ℕ) → is_byte b ≡ true → Element (escape utf8 b) (b ∷ [])
escape_is utf8 b small =
    let lt : b < 256 = grind (arith, nat_tests) in
    if_either (λ (x : List ℕ). Element x (b ∷ [])) (is_raw b && (utf8 || nat_lt b 128)) (b ∷ [])
    (92 ∷ digit_char (b / 16) ∷ digit_char (b % 16) ∷ [])
    (λ e. (raw_byte b (and_parts (is_raw b) (utf8 || nat_lt b 128) e).0))
    (λ e. (subst (λ (v : ℕ). Element (92 ∷ digit_char (b / 16) ∷ digit_char (b % 16) ∷ []) (v ∷ []))
    (byte_is b lt)
    (hex_byte (digit_char (b / 16)) (digit_char (b % 16)) (hex_is (b / 16) (omega arith))
    (hex_is (b % 16) (omega arith)))))

quoted_as_is : (utf8 : Bool) (s : List ℕ) → all_are is_byte s ≡ true → Str (quoted_as utf8 s) s
quoted_as_is utf8 [] h = close
quoted_as_is utf8 (b ∷ s) h =
    let p = and_parts (is_byte b) (all_are is_byte s) h in
    more (escape utf8 b) (b ∷ []) (quoted_as utf8 s) s (escape_is utf8 b p.0)
    (quoted_as_is utf8 s p.1)

pub quoted_is : (s : List ℕ) → all_are is_byte s ≡ true → Str (quoted s) s
quoted_is s h = quoted_as_is (is_utf8 s) s h

pub idchars_are : (x : List ℕ) → all_are is_idchar x ≡ true → Idchars x
idchars_are [] h = tt
idchars_are (b ∷ r) h = let p = and_parts (is_idchar b) (all_are is_idchar r) h in
    (p.0, idchars_are r p.1)

pub idchars_run : (x : List ℕ) → Idchars x → Run x
idchars_run [] h = none
idchars_run (b ∷ r) h = idchar b r h.0 (idchars_run r h.1)

append-none : (x : List ℕ) → x ++ [] ≡ x
append-none [] = refl
append-none (b ∷ r) = ap (λ (l : List ℕ). b ∷ l) (append-none r)

pub string_run : (y c : List ℕ) → Str y c → Run (34 ∷ y)
string_run y c s = subst (λ (l : List ℕ). Run (34 ∷ l)) (append-none y) (string y c [] s none)

-- ---- names

pub name_utf8 : (n : List ℕ) → is_name n ≡ true → IsUtf8 n
name_utf8 [] h = absurd cc
name_utf8 (b ∷ r) h = IsUtf8-from_is_utf8 (b ∷ r) h

pub name_bytes : (n : List ℕ) → is_name n ≡ true → all_are is_byte n ≡ true
name_bytes n h = utf8_bytes n (name_utf8 n h)

pub name_some : (n : List ℕ) → is_name n ≡ true → 0 < length n
name_some [] h = absurd cc
name_some (b ∷ r) h = omega arith

abbrev pub Body : List ℕ → List ℕ → Type 0
Body y n = Run y × (((y ≡ n) × Idchars n) ⊎ (IsString y n × IsUtf8 n))

name_body : (n : List ℕ) → is_name n ≡ true → Body (name_text n) n
name_body n h =
    if_either (λ (y : List ℕ). Body y n) (all_are is_idchar n) n (34 ∷ quoted n)
    (λ e. (let i = idchars_are n e in (idchars_run n i, inl (refl, i))))
    (λ e. (let q = quoted_is n (name_bytes n h) in
    (string_run (quoted n) n q, inr ((quoted n, refl, q), name_utf8 n h))))

pub name_is : (mark : ℕ) (n : List ℕ) → is_idchar mark ≡ true → is_name n ≡ true
    → Run (mark ∷ name_text n) × Name mark (mark ∷ name_text n) n
name_is mark n m h =
    let b = name_body n h in
    (idchar mark (name_text n) m b.0, (name_text n, refl, name_some n h, b.1))

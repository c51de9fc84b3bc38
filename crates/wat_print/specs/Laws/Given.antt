-- Laws: the tokens of a text.
use Rattle.std.proofs.Common.{◌≡◌, ℕ, zero, suc, ◌+◌, ◌*◌, ◌<◌, ◌==◌, slice_index, Bool, true, false, List, [], ◌∷◌, ◌++◌, Option, Some, None, length, refl, subst, arith, rules, inl, inr}
use Rattle.std.specs.Str.{is_utf8}
use Rattle.wat_types.specs.Prelude.{digit_value, IsUtf8, and_parts, cond_both, ltb-true, is_utf8-from_IsUtf8, IsUtf8-from_ascii, IsCut, Cuts, done, blank, token, IsToken, Str, close, Element, raw_byte, hex_byte, is_hex, Name, Idchars, is_integer, visible, visible_tokens, begins_hidden_group, shuts, deeper, Token, Placed, LParen, RParen, Keyword, Id, Annotation, Integer, String, Reserved, tokens_of, is_open}
use Rattle.wat_print.specs.Prelude.{is_byte, is_name, is_given, all_are, each}
use Rattle.wat_lexer.specs.Cut.{more, short_form, code_point, short_escape}
use Rattle.wat_print.specs.Laws.Bytes.{front_are, both_are, byte_is, character_bytes, utf8_bytes}
use Rattle.wat_lexer.specs.Laws.Bytes.{idchar_ascii}

-- ---- names and strings

idchars_ascii : (n : List ℕ) → Idchars n → (i : ℕ) → slice_index n i < 128
idchars_ascii [] h i = search (rules)
idchars_ascii (b ∷ n) h zero = idchar_ascii b h.0
idchars_ascii (b ∷ n) h (suc i) = idchars_ascii n h.1 i

idchars_utf8 : (n : List ℕ) → Idchars n → is_utf8 n ≡ true
idchars_utf8 n h = is_utf8-from_IsUtf8 n (IsUtf8-from_ascii n (idchars_ascii n h))

name_given : (mark : ℕ) (x n : List ℕ) → Name mark x n → is_name n ≡ true
name_given mark x [] h = absurd (omega (arith, h.2))
name_given mark x (b ∷ n) h =
    elim (h.3) [ inl a ↦ idchars_utf8 (b ∷ n) a.1 | inr s ↦ is_utf8-from_IsUtf8 (b ∷ n) s.1 ]

some_byte : (w v : ℕ) → is_byte w ≡ true → Some w ≡ Some v → is_byte v ≡ true
some_byte w v h e = let k : w ≡ v = cc in subst (λ (n : ℕ). is_byte n ≡ true) k h

abbrev IsByteIn : ℕ → Option ℕ → Type 0
IsByteIn v o = o ≡ Some v → is_byte v ≡ true

none_byte : (v : ℕ) → IsByteIn v None
none_byte v e = absurd cc

escape_byte : (c v : ℕ) → IsByteIn v (short_escape c)
escape_byte c v =
    cond_both (c == 116) _ _ (IsByteIn v) (λ e. some_byte 9 v refl)
    (λ e. cond_both (c == 110) _ _ (IsByteIn v) (λ e. some_byte 10 v refl)
    (λ e. cond_both (c == 114) _ _ (IsByteIn v) (λ e. some_byte 13 v refl)
    (λ e. cond_both (c == 34) _ _ (IsByteIn v) (λ e. some_byte 34 v refl)
    (λ e. cond_both (c == 39) _ _ (IsByteIn v) (λ e. some_byte 39 v refl)
    (λ e. cond_both (c == 92) _ _ (IsByteIn v) (λ e. some_byte 92 v refl) (λ e. none_byte v))))))

two_digits : (a b : ℕ) → a < 16 → b < 16 → is_byte (a * 16 + b) ≡ true
two_digits a b h k = byte_is (a * 16 + b) (omega arith)

hex_value : (h l : ℕ) → is_hex h ≡ true → is_hex l ≡ true
    → is_byte (digit_value h * 16 + digit_value l) ≡ true
hex_value h l p q =
    two_digits (digit_value h) (digit_value l) (ltb-true (digit_value h) 16 p)
    (ltb-true (digit_value l) 16 q)

element_given : (x v : List ℕ) → Element x v → all_are is_byte x ≡ true → all_are is_byte v ≡ true
element_given x v (raw_byte b h) a = a
element_given x v (short_form c w e) a = rw (escape_byte c w e) refl
element_given x v (hex_byte h l p q) a = rw (hex_value h l p q) refl
element_given x v (code_point y n e s) a = character_bytes n s

string_given : (y c : List ℕ) → Str y c → all_are is_byte y ≡ true → all_are is_byte c ≡ true
string_given y c close a = refl
string_given y c (more x v z d e s) a =
    let p = front_are is_byte x z a in
    both_are is_byte v d (element_given x v e p.0) (string_given z d s p.1)

-- ---- tokens

token_given : (behind : Bool) (x r : List ℕ) (t : Token) → IsToken behind x r t
    → all_are is_byte x ≡ true → is_given t ≡ true
token_given behind x r LParen k a = refl
token_given behind x r RParen k a = refl
token_given behind x r (Keyword w) k a = refl
token_given behind x r (Id n) k a = name_given 36 x n k.2
token_given behind x r (Annotation n) k a = name_given 64 x n k.2.1
token_given behind x r (Integer w) k a =
    subst (λ (y : List ℕ). is_integer y ≡ true) k.2.0 k.2.2
token_given behind x r (String c) k a =
    let s = k.2 in
    string_given s.0 c s.2 (and_parts true _ (subst
    (λ (y : List ℕ). all_are is_byte y ≡ true) s.1 a)).1
token_given behind x r (Reserved w) k a = refl

cut_given : (n : ℕ) (behind : Bool) (x : List ℕ) (ps : List Placed) → Cuts n behind x ps
    → all_are is_byte x ≡ true
    → each is_given (tokens_of ps) ≡ true
cut_given n behind x ps (done m b) a = refl
cut_given n behind x ps (blank m b text y r ts e k c) a =
    let p = front_are is_byte y r (subst (λ (z : List ℕ). all_are is_byte z ≡ true) e a) in
    cut_given m false r ts c p.1
cut_given n behind x ps (token m b text y r t ts e k c) a =
    let p = front_are is_byte y r (subst (λ (z : List ℕ). all_are is_byte z ≡ true) e a) in
    rw (token_given b y r t k p.0) (cut_given m (is_open t) r ts c p.1)

-- ---- visible tokens

visible_given : (known : Bool) (place : Option ℕ) (ts : List Token) → each is_given ts ≡ true
    → each is_given (visible known place ts) ≡ true
unfolding visible
visible_given known place [] a = refl
visible_given known None (t ∷ ts) a =
    let p = and_parts (is_given t) (each is_given ts) a in
    cond_both (begins_hidden_group known (t ∷ ts)) _ _ (λ (l : List Token). each is_given l ≡ true)
    (λ e. visible_given known (Some 0) ts p.1)
    (λ e. rw (p.0) (visible_given known None ts p.1))
visible_given known (Some depth) (t ∷ ts) a =
    let p = and_parts (is_given t) (each is_given ts) a in
    cond_both (shuts t depth) _ _ (λ (l : List Token). each is_given l ≡ true)
    (λ e. visible_given known None ts p.1)
    (λ e. visible_given known (Some (deeper t depth)) ts p.1)

-- each visible token of a text passes `is_given`
pub text_given : (x : List ℕ) (ps : List Placed) (known : Bool) → IsUtf8 x → IsCut x ps
    → each is_given (visible_tokens known (tokens_of ps)) ≡ true
unfolding visible_tokens
text_given x ps known u c =
    visible_given known None (tokens_of ps) (cut_given (length x) false x ps c.0 (utf8_bytes x u))

pub part_given : (b c r : List Token) → each is_given (b ++ (c ++ r)) ≡ true
    → each is_given c ≡ true
part_given [] [] r a = refl
part_given [] (t ∷ c) r a =
    let p = and_parts (is_given t) (each is_given (c ++ r)) a in
    rw (p.0) (part_given [] c r p.1)
part_given (t ∷ b) c r a =
    part_given b c r (and_parts (is_given t) (each is_given (b ++ (c ++ r))) a).1

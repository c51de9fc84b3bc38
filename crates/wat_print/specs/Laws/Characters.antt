-- Laws: characters in a string that is UTF-8.
use Rattle.std.specs.Char.{is_ascii}
use Rattle.std.specs.Str.{chars}
use Rattle.std.proofs.Common.{map-id, ◌≡◌, ℕ, ◌+◌, ◌/◌, ◌%◌, ◌≤◌, ◌<◌, Bool, true, false, List, [], ◌∷◌, ◌++◌, encode_utf8, flat_map, map, refl, ap, sym, ◌∙◌, append_assoc, append-nil, arith, ltb}
use Rattle.std.proofs.Math.Utf8.{encode}
use Rattle.std.proofs.lemmas.Str.{encode_ascii, encodes-append, encodes-chars}
use Rattle.wat_print.specs.Laws.Prelude.{encode_utf8_all, IsUtf8, cond_both, nat_tests, flat_map-append, is_utf8-from_IsUtf8, is_raw, Page, escape, quoted_as, quoted}

-- ---- one character

-- a non-ASCII byte stays as it is
past_ascii : (b : ℕ) → 128 ≤ b → escape true b ≡ b ∷ []
past_ascii b h = let r : is_raw b ≡ true = grind (arith, nat_tests) in rw r refl

past_2 : (a b : ℕ) → 128 ≤ a → 128 ≤ b → flat_map (escape true) (a ∷ b ∷ []) ≡ a ∷ b ∷ []
past_2 a b h k = rw (past_ascii a h, past_ascii b k) refl

past_3 : (a b c : ℕ) → 128 ≤ a → 128 ≤ b → 128 ≤ c
    → flat_map (escape true) (a ∷ b ∷ c ∷ []) ≡ a ∷ b ∷ c ∷ []
past_3 a b c h k l = rw (past_ascii a h, past_2 b c k l) refl

past_4 : (a b c d : ℕ) → 128 ≤ a → 128 ≤ b → 128 ≤ c → 128 ≤ d
    → flat_map (escape true) (a ∷ b ∷ c ∷ d ∷ []) ≡ a ∷ b ∷ c ∷ d ∷ []
past_4 a b c d h k l m = rw (past_ascii a h, past_3 b c d k l m) refl

-- a non-ASCII character stays as it is
pub character_whole : (c : ℕ) → is_ascii c ≡ false
    → flat_map (escape true) (encode_utf8 c) ≡ encode_utf8 c
unfolding encode
character_whole c h =
    cond_both (ltb c 128) _ _ (λ (x : List ℕ). flat_map (escape true) x ≡ x)
    (λ e. absurd cc)
    (λ e. (cond_both (ltb c 2048) _ _ (λ (x : List ℕ). flat_map (escape true) x ≡ x)
    (λ f. (past_2 (192 + c / 64) (128 + c % 64) (omega arith) (omega arith)))
    (λ f. (cond_both (ltb c 65536) _ _ (λ (x : List ℕ). flat_map (escape true) x ≡ x)
    (λ g. (past_3 (224 + c / 4096) (128 + c / 64 % 64) (128 + c % 64) (omega arith) (omega arith)
    (omega arith)))
    (λ g. (past_4 (240 + c / 262144) (128 + c / 4096 % 64) (128 + c / 64 % 64) (128 + c % 64)
    (omega arith) (omega arith) (omega arith) (omega arith)))))))

-- an ASCII character is written as in a string that isn't UTF-8
pub character_ascii : (c : ℕ) → is_ascii c ≡ true
    → flat_map (escape true) (encode_utf8 c) ≡ escape false c
character_ascii c h =
    let lt : c < 128 = grind (arith, nat_tests) in
    rw (encode_ascii c lt, h) (append-nil (escape true c))

-- how a character is written in a text
pub ruleset character_written = (character_ascii, character_whole)

-- ---- a text

-- one more character
characters_more : (ys : List ℕ) (c : ℕ)
    → flat_map (escape true) (encode_utf8_all (ys ++ c ∷ []))
    ≡ flat_map (escape true) (encode_utf8_all ys) ++ flat_map (escape true) (encode_utf8 c)
characters_more ys c =
    ap (λ (x : List ℕ). flat_map (escape true) x)
    (encodes-append ys (c ∷ [])
    ∙ ap (λ (x : List ℕ). encode_utf8_all ys ++ x) (append-nil (encode_utf8 c)))
    ∙ flat_map-append (escape true) (encode_utf8_all ys) (encode_utf8 c)

quoted_flat : (utf8 : Bool) (s : List ℕ)
    → flat_map (escape utf8) s ++ 34 ∷ [] ≡ quoted_as utf8 s
quoted_flat utf8 [] = refl
quoted_flat utf8 (b ∷ s) =
    append_assoc (escape utf8 b) (flat_map (escape utf8) s) (34 ∷ [])
    ∙ ap (λ (l : List ℕ). escape utf8 b ++ l) (quoted_flat utf8 s)

-- a text, and the closing quote
text_quoted : (s : List ℕ) → IsUtf8 s → flat_map (escape true) s ++ 34 ∷ [] ≡ quoted s
text_quoted s u = rw (is_utf8-from_IsUtf8 s u) (quoted_flat true s)

-- ---- a text on a page

-- the page with the characters of a string appended
abbrev pub with_characters : Page → List ℕ → Page
with_characters p cs =
    record p { bytes = p.bytes ++ flat_map (escape true) (encode_utf8_all cs) }

pub page_more : (start p q : Page) (cs : List ℕ) (c : ℕ) → p ≡ with_characters start cs
    → q ≡ record p { bytes = p.bytes ++ flat_map (escape true) (encode_utf8 c) }
    → q ≡ with_characters start (cs ++ c ∷ [])
page_more start p q cs c e f =
    f ∙ ap (λ (x : Page). record x { bytes = x.bytes ++ flat_map (escape true) (encode_utf8 c) }) e
    ∙ ap (λ (x : List ℕ). record start { bytes = x })
    (append_assoc start.bytes (flat_map (escape true) (encode_utf8_all cs))
    (flat_map (escape true) (encode_utf8 c))
    ∙ ap (λ (x : List ℕ). start.bytes ++ x) (sym (characters_more cs c)))

all_given : (s cs : List ℕ) → IsUtf8 s → map (λ c. c) cs ≡ chars s → encode_utf8_all cs ≡ s
all_given s cs u e =
    ap (λ (x : List ℕ). encode_utf8_all x) (sym (map-id cs) ∙ e) ∙ encodes-chars s u

-- the closing quote after all characters of a text
pub page_closed : (start p q : Page) (s cs : List ℕ) → IsUtf8 s → map (λ c. c) cs ≡ chars s
    → p ≡ with_characters start cs → q ≡ record p { bytes = p.bytes ++ 34 ∷ [] }
    → q ≡ record start { bytes = start.bytes ++ quoted s }
page_closed start p q s cs u all e f =
    f ∙ ap (λ (x : Page). record x { bytes = x.bytes ++ 34 ∷ [] }) e
    ∙ ap (λ (x : List ℕ). record start { bytes = x })
    (append_assoc start.bytes (flat_map (escape true) (encode_utf8_all cs)) (34 ∷ [])
    ∙ ap (λ (x : List ℕ). start.bytes ++ x)
    (ap (λ (x : List ℕ). flat_map (escape true) x ++ 34 ∷ []) (all_given s cs u all)
    ∙ text_quoted s u))

-- ---- bytes

-- The class of a run is exact.
use Rattle.std.proofs.Common.{ap, sym, subst, ◌∙◌, arith, append-nil, inl, inr, ◌≡◌, ℕ, ◌<◌, ◌≤◌, List, [], ◌∷◌, length, refl, Bool, ◌⊎◌, true, false, ◌==◌, ◌&&◌, Option, None, Some}
use Rattle.std.specs.Str.{is_utf8}
use Rattle.std.proofs.lemmas.Str.{IsUtf8-from_is_utf8, is_utf8-from_IsUtf8}
use Rattle.std.proofs.lemmas.Bool.{eqb-true, and_parts}
use Rattle.std.proofs.lemmas.Bool.Decides.{nat_tests}
use Rattle.wat_lexer.specs.Prelude.{IsUtf8, is_idchar, between, is_integer, read, Token, Keyword, Id, Annotation, Integer, String, Reserved, Idchars, Classed, IsString, string_at, all_idchars, whole, string_of, text_name, name_behind, or_reserved, class, Raw}
use Rattle.wat_lexer.specs.Laws.Strings.{some_same, string_sound, string_complete}
use Rattle.wat_lexer.specs.Laws.Cases.{if_either}

pub idchars_sound : (x : List ℕ) → all_idchars x ≡ true → Idchars x
unfolding all_idchars
idchars_sound [] h = tt
idchars_sound (b ∷ t) h = let parts = and_parts (is_idchar b) (all_idchars t) h in (parts.0, idchars_sound t parts.1)

pub idchars_complete : (x : List ℕ) → Idchars x → all_idchars x ≡ true
unfolding all_idchars
idchars_complete [] h = refl
idchars_complete (b ∷ t) h = rw (h.0, idchars_complete t h.1)

whole_is : (o : Option (List ℕ × List ℕ)) (c : List ℕ) → whole o ≡ Some c → o ≡ Some (c, [])
whole_is None c h = cc
whole_is (Some (d, [])) c h = let same : d ≡ c = cc in rw same
whole_is (Some (d, b ∷ t)) c h = cc

pub string_of_sound : (x c : List ℕ) → string_of x ≡ Some c → IsString x c
unfolding string_of
string_of_sound [] c h = cc
string_of_sound (b ∷ t) c h =
    if_either (λ o. o ≡ Some c → IsString (b ∷ t) c) (b == 34) (whole (string_at Raw t)) None
    (λ e h. let (y, s, str) = string_sound t Raw [] c [] refl (whole_is (string_at Raw t) c h) in (y, (λ i. eqb-true b 34 e i ∷ (s ∙ append-nil y) i), str))
    (λ _ h. cc) h

string_of_complete : (x c : List ℕ) → IsString x c → string_of x ≡ Some c
unfolding string_of
string_of_complete x c (y, e, h) = rw (e, rw append-nil at (string_complete y c [] h))

abbrev NameBody : List ℕ → List ℕ → Type 0
NameBody y n = (0 < length n) × (((y ≡ n) × Idchars n) ⊎ (IsString y n × IsUtf8 n))

text_name_is : (y : List ℕ) (o : Option (List ℕ)) (n : List ℕ) → string_of y ≡ o → text_name o ≡ Some n → NameBody y n
text_name_is y None n e h = cc
text_name_is y (Some []) n e h = cc
text_name_is y (Some (b ∷ t)) n e h =
    if_either (λ o. o ≡ Some n → NameBody y n) (is_utf8 (b ∷ t)) (Some (b ∷ t)) None
    (λ u h. subst (NameBody y) (some_same h) (omega arith, inr (string_of_sound y (b ∷ t) e, IsUtf8-from_is_utf8 (b ∷ t) u)))
    (λ _ h. cc) h

name_sound : (y n : List ℕ) → name_behind y ≡ Some n → NameBody y n
unfolding name_behind
name_sound [] n h = cc
name_sound (b ∷ t) n h =
    if_either (λ o. o ≡ Some n → NameBody (b ∷ t) n) (all_idchars (b ∷ t)) (Some (b ∷ t)) _
    (λ e h. subst (NameBody (b ∷ t)) (some_same h) (omega arith, inl (refl, idchars_sound (b ∷ t) e)))
    (λ _ h. text_name_is (b ∷ t) (string_of (b ∷ t)) n refl h) h

text_name_of : (n : List ℕ) → 0 < length n → IsUtf8 n → text_name (Some n) ≡ Some n
text_name_of [] l u = absurd (omega arith)
text_name_of (b ∷ t) l u = rw (is_utf8-from_IsUtf8 (b ∷ t) u)

name_complete : (y n : List ℕ) → NameBody y n → name_behind y ≡ Some n
unfolding name_behind all_idchars
name_complete [] n (l, inl (e, h)) = absurd (omega (arith, ap length e))
name_complete (b ∷ t) n (l, inl (e, h)) = rw (idchars_complete (b ∷ t) (rw (← e) at h), e)
name_complete [] n (l, inr (s, u)) = cc
name_complete (b ∷ t) n (l, inr (s, u)) =
    let quote : b ≡ 34 = cc (s.1) in
    rw (quote, rw quote at (string_of_complete (b ∷ t) n s)) (text_name_of n l u)

-- COMPLETE

-- idchars that begin with a lowercase letter are a keyword and have no other class
class_keyword : (behind : Bool) (b : ℕ) (y : List ℕ) → Idchars (b ∷ y) → between 97 122 b ≡ true → class behind (b ∷ y) ≡ Keyword (b ∷ y)
unfolding class
class_keyword behind b y all low =
    let quote : (b == 34) ≡ false = grind (arith, nat_tests) in
    let dollar : (b == 36) ≡ false = grind (arith, nat_tests) in
    let at : (behind && (b == 64)) ≡ false = grind (arith, nat_tests) in
    rw (quote, dollar, at, idchars_complete (b ∷ y) all, low)

-- an integer doesn't begin with a quote, `$`, `@` or a letter
integer_starts : (b : ℕ) (y : List ℕ) → is_integer (b ∷ y) ≡ true → (43 ≤ b) × (b ≤ 57)
unfolding read
integer_starts b y h = grind (arith, nat_tests)

pub no_integer : is_integer [] ≡ false
unfolding read
no_integer = refl

class_integer : (behind : Bool) (x : List ℕ) → Idchars x → is_integer x ≡ true → class behind x ≡ Integer x
unfolding class
class_integer behind [] all h = cc no_integer
class_integer behind (b ∷ y) all h =
    let (low, high) = integer_starts b y h in
    let letter : between 97 122 b ≡ false = grind (arith, nat_tests) in
    let quote : (b == 34) ≡ false = grind (arith, nat_tests) in
    let dollar : (b == 36) ≡ false = grind (arith, nat_tests) in
    let at : (behind && (b == 64)) ≡ false = grind (arith, nat_tests) in
    rw (quote, dollar, at, idchars_complete (b ∷ y) all, letter, h)

pub class_complete : (behind : Bool) (x : List ℕ) (t : Token) → Classed behind x t
    → class behind x ≡ t
unfolding class
class_complete behind x (Keyword k) (e, all, b, y, s, low) = rw (← e, s) (class_keyword behind b y (rw s at all) low)
class_complete behind x (Id n) (y, e, l, h) = rw (e, name_complete y n (l, h))
class_complete behind x (Annotation n) (w, (y, e, l, h)) = rw (w, e, name_complete y n (l, h))
class_complete behind x (Integer k) (e, all, h) = class_integer behind x all h ∙ ap Integer e
class_complete behind x (String c) (y, e, h) = rw (e, string_of_complete (34 ∷ y) c (y, refl, h))
class_complete behind x _ h = absurd h

-- SOUND: the class that is found is the class of the run, or the run is reserved

abbrev pub KnownRight : Bool → List ℕ → Token → Type 0
KnownRight behind x (Reserved k) = x ≡ k
KnownRight behind x t = Classed behind x t

string_right : (behind : Bool) (x : List ℕ) (o : Option (List ℕ)) → string_of x ≡ o → KnownRight behind x (or_reserved String x o)
string_right behind x None h = refl
string_right behind x (Some c) h = string_of_sound x c h

id_right : (behind : Bool) (b : ℕ) (t : List ℕ) (o : Option (List ℕ)) → b ≡ 36 → name_behind t ≡ o → KnownRight behind (b ∷ t) (or_reserved Id (b ∷ t) o)
id_right behind b t None e h = refl
id_right behind b t (Some n) e h = let (some, body) = name_sound t n h in (t, ap (λ c. c ∷ t) e, some, body)

annotation_right : (behind : Bool) (b : ℕ) (t : List ℕ) (o : Option (List ℕ)) → (behind ≡ true) × ((b == 64) ≡ true) → name_behind t ≡ o → KnownRight behind (b ∷ t) (or_reserved Annotation (b ∷ t) o)
annotation_right behind b t None e h = refl
annotation_right behind b t (Some n) (w, e) h = let (some, body) = name_sound t n h in (w, (t, ap (λ c. c ∷ t) (eqb-true b 64 e), some, body))

pub class_right : (behind : Bool) (x : List ℕ) → KnownRight behind x (class behind x)
unfolding class
class_right behind [] = refl
class_right behind (b ∷ t) =
    let P : Token → Type 0 = KnownRight behind (b ∷ t) in
    if_either P (b == 34) _ _ (λ e. string_right behind (b ∷ t) (string_of (b ∷ t)) refl)
    (λ _. if_either P (b == 36) _ _ (λ e. id_right behind b t (name_behind t) (eqb-true b 36 e) refl)
    (λ _. if_either P (behind && (b == 64)) _ _ (λ e. annotation_right behind b t (name_behind t) (and_parts behind (b == 64) e) refl)
    (λ _. if_either P (all_idchars (b ∷ t) && between 97 122 b) _ _
    (λ e. let (all, low) = and_parts (all_idchars (b ∷ t)) (between 97 122 b) e in (refl, idchars_sound (b ∷ t) all, b, t, refl, low))
    (λ _. if_either P (all_idchars (b ∷ t) && is_integer (b ∷ t)) _ _
    (λ e. let (all, integer) = and_parts (all_idchars (b ∷ t)) (is_integer (b ∷ t)) e in (refl, idchars_sound (b ∷ t) all, integer))
    (λ _. refl)))))

-- a reserved run has no other class
pub class_reserved : (behind : Bool) (x k : List ℕ) → class behind x ≡ Reserved k → (t : Token)
    → Classed behind x t → ⊥
class_reserved behind x k e t h = let same : t ≡ Reserved k = sym (class_complete behind x t h) ∙ e in rw same at h

none_is : (behind : Bool) (x : List ℕ) (t : Token) → ((t : Token) → Classed behind x t → ⊥)
    → KnownRight behind x t → t ≡ Reserved x
none_is behind x (Reserved n) fits h = rw h
none_is behind x t fits h = absurd (fits t h)

-- if no class fits, the run is reserved
pub class_none : (behind : Bool) (x : List ℕ) → ((t : Token) → Classed behind x t → ⊥)
    → class behind x ≡ Reserved x
class_none behind x fits = none_is behind x (class behind x) fits (class_right behind x)

-- Masked tokens: integers in place of float literals.
use Rattle.std.specs.Prelude.{ℕ, Bool, true, false, List, [], ◌∷◌, length, ◌&&◌, ◌||◌, not, codes, if◌then◌else◌, Option, Some, None}
use Prim.Native.Char.{code}
use Rattle.wat_lexer.specs.Prelude.{bytes_eq, begins_hidden_group, visible_tokens, shuts, deeper, Token, Keyword, Integer, Reserved, is_open}
use Rattle.wat_masked.specs.Float.{is_float}
use Rattle.wat_masked.specs.declared.change.Change.{Change}
use Rattle.wat_masked.specs.declared.change.Change.TheVariants as of

-- WORDS AND LITERALS

-- the bytes of a keyword, an integer or a reserved run
abbrev pub bytes_of : Token → List ℕ
bytes_of (Keyword k) = k
bytes_of (Integer k) = k
bytes_of (Reserved k) = k
bytes_of _ = []

abbrev pub is_literal : Token → Bool
is_literal t = is_float (bytes_of t)

-- a float literal is in front
abbrev pub begins_literal : List Token → Bool
begins_literal [] = false
begins_literal (t ∷ _) = is_literal t

-- a word that float literals can follow
unfoldable pub takes_floats : List ℕ → Bool
takes_floats k =
    bytes_eq k (codes "f32.const") || (bytes_eq k (codes "f64.const")
    || (bytes_eq k (codes "f32x4") || bytes_eq k (codes "f64x2")))

-- a word that float literals can follow if a `(` is directly before the word
unfoldable pub is_type : List ℕ → Bool
is_type k = bytes_eq k (codes "f32") || bytes_eq k (codes "f64")

-- float literals can follow the keyword; the flag is true if a `(` is directly before the keyword
abbrev pub is_float_word : Bool → Token → Bool
is_float_word opened (Keyword k) = takes_floats k || (opened && is_type k)
is_float_word opened _ = false

-- CHANGES

-- The change of a visible token. The flags: a `(` is directly before the token; the visible token
-- before it was changed; a float literal is the next visible token.
abbrev pub change_of : Bool → Bool → Bool → Token → Change
change_of opened row followed t =
    if row && is_literal t then of.Literal (length (bytes_of t))
    else (if is_float_word opened t && followed then of.Word else of.Keep)

abbrev pub is_changed : Change → Bool
is_changed of.Keep = false
is_changed of.Word = true
is_changed (of.Literal _) = true

-- The changes of tokens that follow others. The flags are those of the first visible token. `Some
-- depth` is a state within a hidden group, in which `depth` more groups are open. The tokens of the
-- group and the flags stay. No annotation is known, so each annotation group is hidden. A reader of
-- the text may know the five standard annotations. By the grammar no float literal is in their
-- groups.
unfoldable pub changes : Bool → Bool → Option ℕ → List Token → List Change
changes opened row state [] = []
changes opened row None (t ∷ ts) =
    if begins_hidden_group false (t ∷ ts) then of.Keep ∷ changes opened row (Some 0) ts
    else (let change = change_of opened row (begins_literal (visible_tokens false ts)) t in
    change ∷ changes (is_open t) (is_changed change) None ts)
changes opened row (Some depth) (t ∷ ts) =
    of.Keep ∷ changes opened row (if shuts t depth then None else Some (deeper t depth)) ts

-- the changes of the tokens of a text
abbrev pub changes_of : List Token → List Change
changes_of ts = changes false false None ts

-- MASKED TOKENS

-- the word with an `i` for its first letter
abbrev pub with_i : Token → Token
with_i (Keyword (_ ∷ k)) = Keyword (code "i" ∷ k)
with_i t = t

abbrev pub changed : Change → Token → Token
changed of.Keep t = t
changed of.Word t = with_i t
changed (of.Literal _) t = Integer (codes "0")

-- the tokens after their changes
abbrev pub all_changed : List Change → List Token → List Token
all_changed (c ∷ cs) (t ∷ ts) = changed c t ∷ all_changed cs ts
all_changed _ _ = []

abbrev pub masked_tokens : List Token → List Token
masked_tokens ts = all_changed (changes_of ts) ts

-- no float literal directly follows a word that takes floats, among visible tokens
unfoldable pub has_none : Bool → List Token → Bool
has_none opened [] = true
has_none opened (t ∷ ts) =
    not (is_float_word opened t && begins_literal ts) && has_none (is_open t) ts

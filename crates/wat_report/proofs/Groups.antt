-- One step of the count of groups among tokens, and of the count of tokens before an offset.
use Rattle.std.proofs.Common.{◌≡◌, ℕ, ◌+◌, ◌<◌, ◌≤◌, take, drop, length, get_or, refl, arith, Bool, true, false, List, count_by, nat_lt}
use Rattle.std.proofs.Math.ListN.{get_or-map}
use Rattle.std.proofs.lemmas.List.Sums.{count_by_more_no, count_by_more_yes, prefix_len-drop_all}
use Rattle.wat_mnemonics.specs.Prelude.{length-map, nat_tests, Entry, LParen, RParen, Keyword, Id, Annotation, Integer, String, Token, is_close, is_open, tokens_of, no_entry, placed, placed_of, le-ltb}
use Rattle.wat_lexer.specs.Token.{Reserved}
use Rattle.wat_report.specs.Front.{count_before}
use Rattle.wat_lexer.specs.Laws.Kinds.{token_at}

abbrev pub tokens : List Entry → List Token
tokens es = tokens_of (placed es)

token_there : (es : List Entry) (i : ℕ) → get_or (tokens es) i LParen ≡ (get_or es i no_entry).token
token_there es i = rw (get_or-map (λ p. p.token) (placed es) i (placed_of no_entry), get_or-map placed_of es i no_entry)

as_many : (es : List Entry) → length (tokens es) ≡ length es
as_many es = rw (length-map (placed es) (λ p. p.token), length-map es placed_of)

pub one_more : (test : Token → Bool) (es : List Entry) (i : ℕ) → i < length es → test (get_or es i no_entry).token ≡ true
    → count_by test (take (i + 1) (tokens es)) ≡ count_by test (take i (tokens es)) + 1
one_more test es i l h = count_by_more_yes test (tokens es) i LParen (rw (as_many es) l) (rw (token_there es i) h)

pub no_more : (test : Token → Bool) (es : List Entry) (i : ℕ) → i < length es → test (get_or es i no_entry).token ≡ false
    → count_by test (take (i + 1) (tokens es)) ≡ count_by test (take i (tokens es))
no_more test es i l h = count_by_more_no test (tokens es) i LParen (rw (as_many es) l) (rw (token_there es i) h)

passes : (a b : ℕ) → a < b → nat_lt a b ≡ true
passes a b h = grind (arith, nat_tests)

pub before_more : (at : ℕ) (es : List Entry) (i : ℕ) → i < length es → (get_or es i no_entry).offset < at → count_before at (drop i (placed es)) ≡ 1 + count_before at (drop (i + 1) (placed es))
unfolding count_before
before_more at es i h before = rw (token_at es i h, passes (get_or es i no_entry).offset at before) refl

pub before_stops : (at : ℕ) (es : List Entry) (i : ℕ) → i < length es → at ≤ (get_or es i no_entry).offset → count_before at (drop i (placed es)) ≡ 0
unfolding count_before
before_stops at es i h behind = rw (token_at es i h, le-ltb (get_or es i no_entry).offset at behind) refl

pub before_end : (at : ℕ) (es : List Entry) (i : ℕ) → length es ≤ i → count_before at (drop i (placed es)) ≡ 0
unfolding count_before
before_end at es i h = prefix_len-drop_all (λ t. nat_lt t.offset at) (placed es) i (rw (length-map es placed_of) h)

pub ruleset before_steps = (before_more, before_stops, before_end)

pub no_close : (t : Token) → is_open t ≡ true → is_close t ≡ false
no_close LParen h = refl
no_close RParen h = absurd (let f : false ≡ true = h in cc)
no_close (Keyword k) h = refl
no_close (Id n) h = refl
no_close (Annotation n) h = refl
no_close (Integer k) h = refl
no_close (String c) h = refl
no_close (Reserved k) h = refl

-- Laws: the kinds of tokens, and tokens without their offsets.
use Rattle.std.proofs.Common.{ap, sym, ◌∙◌, ◌≡◌, ℕ, ◌+◌, ◌<◌, true, List, [], ◌∷◌, length, drop, get_or, refl}
use Rattle.std.proofs.lemmas.List.{drop-map, drop_more}
use Rattle.wat_lexer.specs.Prelude.{Token, Entry, LParen, RParen, tokens_of, is_open, is_close, entry_tok, entry_tokens, placed, placed_of, no_entry}

pub open_is : (t : Token) → is_open t ≡ true → t ≡ LParen
open_is LParen h = refl
open_is _ h = cc

pub close_is : (t : Token) → is_close t ≡ true → t ≡ RParen
close_is RParen h = refl
close_is _ h = cc

-- the tokens of entries, with or without their offsets
pub tokens_of-placed : (ls : List Entry) → tokens_of (placed ls) ≡ entry_tokens ls
tokens_of-placed [] = refl
tokens_of-placed (x ∷ ls) = ap (λ l. entry_tok x ∷ l) (tokens_of-placed ls)

-- the token at an index, and the tokens after it
pub token_at : (ls : List Entry) (i : ℕ) → i < length ls
    → drop i (placed ls) ≡ placed_of (get_or ls i no_entry) ∷ drop (i + 1) (placed ls)
token_at ls i h =
    drop-map placed_of i ls ∙ ap placed (drop_more ls i no_entry h)
    ∙ ap (λ l. placed_of (get_or ls i no_entry) ∷ l) (sym (drop-map placed_of (i + 1) ls))

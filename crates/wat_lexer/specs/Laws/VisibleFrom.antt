-- Laws: the first visible token.
use Rattle.std.specs.Prelude.{◌≡◌, ℕ, ◌+◌, ◌<◌, ◌≤◌, Bool, List, [], ◌∷◌, length, drop}
use Rattle.wat_lexer.specs.Laws.Prelude.{get_or, drop_of_length-le, drop_more, Token, Entry, visible_tokens, entry_tokens, no_entry, VisibleFrom}

-- the first visible token is at the index
pub visible_some : (known : Bool) (ls : List Entry) (i : ℕ) (left : List Token)
    → VisibleFrom known (drop i ls) left → i < length ls
    → left ≡ (get_or ls i no_entry).token ∷ visible_tokens known (entry_tokens (drop (i + 1) ls))
visible_some known ls i left s lt = rw (drop_more ls i no_entry lt) at s

-- after the last token no token is visible
pub visible_none : (known : Bool) (ls : List Entry) (i : ℕ) (left : List Token)
    → VisibleFrom known (drop i ls) left → length ls ≤ i → left ≡ []
visible_none known ls i left s le = rw (drop_of_length-le ls le) at s

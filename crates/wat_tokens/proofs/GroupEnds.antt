-- The index where a group is closed.
use Rattle.std.proofs.Common.{◌≡◌, ℕ, ◌+◌, ◌-◌, ◌<◌, ◌≤◌, List, length, drop, get_or, refl, arith, zero, suc, true, false, Some, None}
use Rattle.wat_lexer.specs.Prelude.{shuts, deeper, Token, Entry, LParen, RParen, is_open, is_close, placed, no_entry}
use Rattle.wat_lexer.specs.Laws.Kinds.{token_at, open_is, close_is}
use Rattle.wat_tokens.specs.Visible.{closing}
use Rattle.wat_tokens.proofs.Steps.{past}

pub closing_past : (ls : List Entry) (i depth : ℕ) → length ls ≤ i → closing depth (drop i (placed ls)) ≡ None
unfolding closing
closing_past ls i depth h = rw (past ls i h)

shuts_close : (t : Token) → is_close t ≡ true → shuts t 0 ≡ true
shuts_close RParen h = refl
shuts_close _ h = cc

pub closes_here : (ls : List Entry) (i : ℕ) → i < length ls → is_close (get_or ls i no_entry).token ≡ true → closing 0 (drop i (placed ls)) ≡ Some ((get_or ls i no_entry).offset, drop (i + 1) (placed ls))
unfolding closing
closes_here ls i h e = rw (token_at ls i h, shuts_close (get_or ls i no_entry).token e)

pub closes_inner : (ls : List Entry) (i depth : ℕ) → i < length ls → is_close (get_or ls i no_entry).token ≡ true → 0 < depth → closing depth (drop i (placed ls)) ≡ closing (depth - 1) (drop (i + 1) (placed ls))
unfolding closing
closes_inner ls i zero h e lt = absurd (omega arith)
closes_inner ls i (suc depth) h e lt = rw (token_at ls i h, close_is (get_or ls i no_entry).token e)

pub opens_inner : (ls : List Entry) (i depth : ℕ) → i < length ls → is_open (get_or ls i no_entry).token ≡ true → closing depth (drop i (placed ls)) ≡ closing (depth + 1) (drop (i + 1) (placed ls))
unfolding closing
opens_inner ls i depth h e = rw (token_at ls i h, open_is (get_or ls i no_entry).token e)

other_shuts : (t : Token) (depth : ℕ) → is_close t ≡ false → is_open t ≡ false → (shuts t depth ≡ false) × (deeper t depth ≡ depth)
other_shuts LParen depth c o = absurd cc
other_shuts RParen depth c o = absurd cc
other_shuts _ depth c o = (refl, refl)

pub goes_on : (ls : List Entry) (i depth : ℕ) → i < length ls → is_close (get_or ls i no_entry).token ≡ false → is_open (get_or ls i no_entry).token ≡ false → closing depth (drop i (placed ls)) ≡ closing depth (drop (i + 1) (placed ls))
unfolding closing
goes_on ls i depth h c o = let (s, d) = other_shuts (get_or ls i no_entry).token depth c o in rw (token_at ls i h, s, d)

pub ruleset closing_steps = (closing_past, closes_here, closes_inner, opens_inner, goes_on)

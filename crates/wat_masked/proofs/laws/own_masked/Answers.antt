use Rattle.std.proofs.Common.{◌≡◌, ℕ, List, subst, false, true}
use Rattle.wat_masked.specs.Prelude.{IsCut, visible_tokens, Placed, tokens_of, IsMasked, has_none}
use Rattle.wat_masked.proofs.MaskedText.{is_masked}
use Rattle.wat_masked.proofs.Tokens as own
use Rattle.wat_masked.proofs.laws.own_masked.Goals as goal

own_text : (text : List ℕ) (ts : List Placed) → IsCut text ts → has_none false (visible_tokens false (tokens_of ts)) ≡ true → IsMasked text text
own_text text ts k h = subst (IsMasked text) (own.own_text text ts h) (is_masked text ts k)

pub returns-clause-tokens : goal.returns-clause-tokens
returns-clause-tokens c = own.own_tokens

pub returns-clause-text : goal.returns-clause-text
returns-clause-text c = own_text

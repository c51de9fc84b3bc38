-- Laws: where a hidden group begins, and where none does.
use Rattle.std.proofs.Common.{arith, ◌≡◌, ℕ, ◌+◌, ◌<◌, ◌≤◌, Bool, true, false, List, [], ◌∷◌, length, drop, refl}
use Rattle.std.proofs.Math.ListN.{get_or}
use Rattle.std.proofs.lemmas.List.{drop_more, length-drop}
use Rattle.wat_lexer.specs.Prelude.{begins_hidden_group, hidden_count, hidden_count_at, Token, Entry, LParen, Annotation, is_open, is_annotation, entry_tok, entry_tokens, no_entry}

-- a hidden group begins with `(` and an annotation
pub begins_hidden_is : (t : List Token) → begins_hidden_group false t ≡ true
    → (n : List ℕ) × (r : List Token) × (t ≡ LParen ∷ (Annotation n ∷ r))
begins_hidden_is [] h = cc
begins_hidden_is (LParen ∷ Annotation n ∷ r) h = (n, r, refl)
begins_hidden_is (LParen ∷ []) h = cc
begins_hidden_is (LParen ∷ _ ∷ r) h = cc
begins_hidden_is (_ ∷ r) h = cc

-- nothing is hidden in front
pub hidden_count_none : (known : Bool) (t : List Token) → begins_hidden_group known t ≡ false
    → hidden_count known t ≡ 0
unfolding hidden_count hidden_count_at
hidden_count_none known [] h = refl
hidden_count_none known (x ∷ r) h = rw h

alone : (known : Bool) (t : Token) → begins_hidden_group known (t ∷ []) ≡ false
alone known LParen = refl
alone known _ = refl

few : (known : Bool) (ls : List Entry) → length ls ≤ 1 → begins_hidden_group known (entry_tokens ls) ≡ false
few known [] h = refl
few known (x ∷ []) h = alone known x.token
few known (x ∷ y ∷ ls) h = absurd (omega arith)

-- if fewer than two tokens are left
pub begins_hidden_few : (known : Bool) (ls : List Entry) (i : ℕ) → length ls ≤ i + 1
    → begins_hidden_group known (entry_tokens (drop i ls)) ≡ false
begins_hidden_few known ls i h = few known (drop i ls) (omega (arith, length-drop i ls))

-- if a token other than `(` is in front
pub begins_hidden_not_open : (known : Bool) (t : Token) (r : List Token) → is_open t ≡ false
    → begins_hidden_group known (t ∷ r) ≡ false
begins_hidden_not_open known LParen r h = cc
begins_hidden_not_open known _ r h = refl

-- if the token at the index isn't `(`
pub begins_hidden_none : (known : Bool) (ls : List Entry) (i : ℕ) → i < length ls
    → is_open ((get_or ls i no_entry).token) ≡ false
    → begins_hidden_group known (entry_tokens (drop i ls)) ≡ false
begins_hidden_none known ls i lt h =
    rw (drop_more ls i no_entry lt)
    (begins_hidden_not_open known (entry_tok (get_or ls i no_entry)) (entry_tokens (drop (i + 1) ls)) h)

no_annotation : (known : Bool) (s t : Token) (r : List Token) → is_annotation t ≡ false
    → begins_hidden_group known (s ∷ t ∷ r) ≡ false
no_annotation known LParen (Annotation n) r h = cc
no_annotation known LParen _ r h = refl
no_annotation known _ t r h = refl

-- if the token after the index isn't an annotation
pub begins_hidden_other : (known : Bool) (ls : List Entry) (i : ℕ) → i + 1 < length ls
    → is_annotation ((get_or ls (i + 1) no_entry).token) ≡ false
    → begins_hidden_group known (entry_tokens (drop i ls)) ≡ false
begins_hidden_other known ls i lt h =
    rw (drop_more ls i no_entry (omega arith), drop_more ls (i + 1) no_entry lt)
    (no_annotation known (entry_tok (get_or ls i no_entry)) (entry_tok (get_or ls (i + 1) no_entry))
    (entry_tokens (drop (i + 1 + 1) ls)) h)

pub ruleset begins_hidden_steps = (begins_hidden_few, begins_hidden_none, begins_hidden_other)

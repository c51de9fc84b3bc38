-- What a parser that is ready sees, and its steps.
use Rattle.std.proofs.Common.{◌≡◌, ◌≢◌, ℕ, zero, suc, ◌+◌, ◌<◌, ◌≤◌, Bool, false, true, List, [], ◌∷◌, length, drop, drop-drop, refl, ap, sym, ◌∙◌, arith, subst, inl, inr, Some, None}
use Rattle.std.proofs.lemmas.List.{length-drop}
use Rattle.std.specs.Cmp.Lexicographic.{bytes_decides}
use Rattle.wat_lexer.specs.Laws.Prelude.{cases_Bool}
use Rattle.wat_lexer.specs.Prelude.{Token, Placed, LParen, RParen, Keyword, hidden_count, tokens_of, shuts, deeper}
use Rattle.wat_lexer.specs.View.{is_paren}
use Rattle.wat_tokens.specs.State.{State}
use Rattle.wat_tokens.specs.Tests.{begins_word, begins_id, begins_lparen, ends, none_left}
use Rattle.wat_tokens.specs.Visible.{IsPlaceOf, shown, seen, behind_one, closing}
use Rattle.wat_scripts.specs.Laws.Visible.{seen_is, shown_is, from_first, behind_is, closed_visible, closing_is}
use Rattle.wat_scripts.specs.Scripts.{open_at, close_at, word_at, offset_if}
use Rattle.wat_scripts.specs.Steps.{AreBelow, IsReady, front}
use Rattle.wat_scripts.specs.Visible.{visible_placed}
use Rattle.wat_scripts.proofs.Closing.{same_end}

-- ---- the tokens that a parser has left

pub left_is : {limit : ℕ} {p : State} → IsReady limit p → p.left ≡ tokens_of (front p)
left_is {limit} {p} r = r.left ∙ ap (λ (k : Bool). seen k p.rest) r.known ∙ sym (seen_is p.rest)

place_first : (n : ℕ) (us : List Placed) → IsPlaceOf n us → IsPlaceOf n (from_first us)
place_first n [] at = tt
place_first n (p ∷ us) at = at

pub place_is : {limit : ℕ} {p : State} (n : ℕ) → IsReady limit p → IsPlaceOf n (shown p.known p.rest) → IsPlaceOf n (front p)
place_is {limit} {p} n r at =
    subst (IsPlaceOf n) (sym (shown_is p.rest)) (place_first n (shown false p.rest) (subst (λ (k : Bool). IsPlaceOf n (shown k p.rest)) r.known at))

-- ---- steps

below_drop : (limit n : ℕ) (ts : List Placed) → AreBelow limit ts → AreBelow limit (drop n ts)
below_drop limit zero ts b = b
below_drop limit (suc n) [] b = tt
below_drop limit (suc n) (p ∷ ts) b = below_drop limit n ts b.1

-- a parser whose tokens are the last of those of a ready parser
pub moved_ready : {limit : ℕ} {p : State} (q : State) (n : ℕ) → IsReady limit p → q ≡ record p { rest = q.rest; left = seen p.known q.rest } → q.rest ≡ drop n p.rest → IsReady limit q
moved_ready {limit} {p} q n r e is = record {
  known = ap (λ (s : State). s.known) e ∙ r.known;
  left = ap (λ (s : State). s.left) e ∙ ap (λ (k : Bool). seen k q.rest) (sym (ap (λ (s : State). s.known) e));
  below = subst (AreBelow limit) (sym is) (below_drop limit n p.rest r.below);
}

one_drop : (known : Bool) (ts : List Placed) → behind_one known ts ≡ drop (hidden_count known (tokens_of ts) + 1) ts
one_drop known ts = drop-drop 1 (hidden_count known (tokens_of ts)) ts

pub one_ready : {limit : ℕ} {p : State} (q : State) → IsReady limit p → q ≡ record p { rest = behind_one p.known p.rest; left = seen p.known (behind_one p.known p.rest) } → IsReady limit q
one_ready {limit} {p} q r e =
    let is : q.rest ≡ behind_one p.known p.rest = ap (λ (s : State). s.rest) e in
    moved_ready q _ r (e ∙ ap (λ (l : List Placed). record p { rest = l; left = seen p.known l }) (sym is)) (is ∙ one_drop p.known p.rest)

pub one_front : {limit : ℕ} {p : State} (q : State) → IsReady limit p → q ≡ record p { rest = behind_one p.known p.rest; left = seen p.known (behind_one p.known p.rest) } → front q ≡ drop 1 (front p)
one_front {limit} {p} q r e = ap (λ (s : State). visible_placed s.rest) e ∙ ap (λ (k : Bool). visible_placed (behind_one k p.rest)) r.known ∙ behind_is p.rest

one_length : (known : Bool) (ts : List Placed) → length (behind_one known ts) ≤ length ts
one_length known ts = rw one_drop (omega (arith, length-drop (hidden_count known (tokens_of ts) + 1) ts))

pub one_fewer : (p q : State) → q ≡ record p { rest = behind_one p.known p.rest; left = seen p.known (behind_one p.known p.rest) } → length q.rest ≤ length p.rest
one_fewer p q e = subst (λ (l : List Placed). length l ≤ length p.rest) (sym (ap (λ (s : State). s.rest) e)) (one_length p.known p.rest)

-- at a token of `shown`, fewer are left behind it
some_shorter : (us : List Placed) → from_first us ≢ [] → length (drop 1 us) < length us
some_shorter [] denied = absurd (denied refl)
some_shorter (p ∷ us) denied = omega arith

pub one_less : {limit : ℕ} {p : State} (q : State) → IsReady limit p → q ≡ record p { rest = behind_one p.known p.rest; left = seen p.known (behind_one p.known p.rest) } → front p ≢ [] → length q.rest < length p.rest
one_less {limit} {p} q r e denied =
    let less : length (behind_one false p.rest) < length (shown false p.rest) = some_shorter (shown false p.rest) (λ is. denied (shown_is p.rest ∙ is)) in
    let few : length (shown false p.rest) ≤ length p.rest = omega (arith, length-drop (hidden_count false (tokens_of p.rest)) p.rest) in
    let rest : q.rest ≡ behind_one false p.rest = ap (λ (s : State). s.rest) e ∙ ap (λ (k : Bool). behind_one k p.rest) r.known in
    subst (λ (l : List Placed). length l < length p.rest) (sym rest) (omega arith)

-- ---- to the end of a group

-- the tokens after the `)` of a group
pub record Behind (limit : ℕ) (ts : List Placed) (o : ℕ) (us : List Placed) : Type 0 where
  pub n : ℕ
  pub last : us ≡ drop n ts
  pub less : length us < length ts
  pub below : AreBelow limit ts → o < limit

shuts_is : (t : Token) (depth : ℕ) → shuts t depth ≡ true → t ≡ RParen
shuts_is RParen depth h = refl
shuts_is _ depth h = absurd cc

behind_end : (limit depth : ℕ) (ts : List Placed) (o : ℕ) (us : List Placed) → closing depth ts ≡ Some (o, us) → Behind limit ts o us
unfolding closing
behind_end limit depth [] o us e = absurd cc
behind_end limit depth (p ∷ ts) o us e = elim (cases_Bool (shuts p.token depth)) [
  | inl h ↦ (
      let f = rw h at e in
      let (at_is, us_is) = same_end f in
      record {
        n = 1;
        last = sym us_is;
        less = omega (arith, ap length us_is);
        below = λ b. subst (λ (m : ℕ). m < limit) at_is (b.0 (shuts_is p.token depth h));
      })
  | inr h ↦ (
      let f = rw h at e in
      let more = behind_end limit (deeper p.token depth) ts o us f in
      record {
        n = suc more.n;
        last = more.last;
        less = omega (arith, more.less);
        below = λ b. more.below b.1;
      })
]

pub behind_close : (limit : ℕ) (p : State) (o : ℕ) (us : List Placed) → closing 0 (behind_one p.known p.rest) ≡ Some (o, us) → Behind limit p.rest o us
behind_close limit p o us e =
    let more = behind_end limit 0 (behind_one p.known p.rest) o us e in
    let k = hidden_count p.known (tokens_of p.rest) + 1 in
    record {
      n = k + more.n;
      last = more.last ∙ ap (drop more.n) (one_drop p.known p.rest) ∙ drop-drop more.n k p.rest;
      less = omega (arith, more.less, one_length p.known p.rest);
      below = λ b. more.below (subst (AreBelow limit) (sym (one_drop p.known p.rest)) (below_drop limit k p.rest b));
    }

at_front : {limit : ℕ} {p : State} → IsReady limit p → closing 0 (drop 1 (front p)) ≡ closed_visible (closing 0 (behind_one p.known p.rest))
at_front {limit} {p} r =
    ap (λ (l : List Placed). closing 0 l) (sym (behind_is p.rest)) ∙ sym (closing_is (behind_one false p.rest)) ∙ ap (λ (k : Bool). closed_visible (closing 0 (behind_one k p.rest))) (sym r.known)

pub end_front : {limit : ℕ} {p : State} {o : ℕ} {us : List Placed} → IsReady limit p → closing 0 (behind_one p.known p.rest) ≡ Some (o, us) → closing 0 (drop 1 (front p)) ≡ Some (o, visible_placed us)
end_front r e = at_front r ∙ ap closed_visible e

pub none_front : {limit : ℕ} {p : State} → IsReady limit p → closing 0 (behind_one p.known p.rest) ≡ None → closing 0 (drop 1 (front p)) ≡ None
none_front r e = at_front r ∙ ap closed_visible e

-- ---- the next token

lparen_is : (t : Token) (r : List Token) → begins_lparen (t ∷ r) ≡ true → t ≡ LParen
lparen_is LParen r h = refl
lparen_is _ r h = absurd cc

pub id_plain : (t : Token) (r : List Token) → begins_id (t ∷ r) ≡ true → is_paren t ≡ false
id_plain LParen r h = absurd cc
id_plain RParen r h = absurd cc
id_plain _ r h = refl

word_is : (w : List ℕ) (t : Token) (r : List Token) → begins_word w (t ∷ r) ≡ true → t ≡ Keyword w
word_is w (Keyword k) r h = ap Keyword ((bytes_decides k w).0 h)
word_is w _ r h = absurd cc

placed_is : (p : Placed) (t : Token) (n : ℕ) → p.token ≡ t → p.offset ≡ n → p ≡ record { token = t; offset = n }
placed_is p t n e f = ap (λ (c : Token × ℕ). record { token = c.0; offset = c.1 }) {x = (p.token, p.offset)} {y = (t, n)} (cc)

-- a `(` at its offset
pub opens_at : (ts : List Placed) (n : ℕ) → begins_lparen (tokens_of ts) ≡ true → IsPlaceOf n ts → ts ≡ open_at n ∷ drop 1 ts
opens_at [] n h at = absurd cc
opens_at (p ∷ ts) n h at = ap (λ (q : Placed). q ∷ ts) (placed_is p LParen n (lparen_is p.token (tokens_of ts) h) (sym at))

pub first_place : List Placed → ℕ
first_place [] = 0
first_place (p ∷ ts) = p.offset

place_of_first : (ts : List Placed) → IsPlaceOf (first_place ts) ts
unfolding first_place
place_of_first [] = tt
place_of_first (p ∷ ts) = refl

pub opens : (ts : List Placed) → begins_lparen (tokens_of ts) ≡ true → ts ≡ open_at (first_place ts) ∷ drop 1 ts
opens ts h = opens_at ts (first_place ts) h (place_of_first ts)

pub words : (w : List ℕ) (ts : List Placed) → begins_word w (tokens_of ts) ≡ true → ts ≡ word_at w (first_place ts) ∷ drop 1 ts
unfolding first_place
words w [] h = absurd cc
words w (p ∷ ts) h = ap (λ (q : Placed). q ∷ ts) (placed_is p (Keyword w) p.offset (word_is w p.token (tokens_of ts) h) refl)

rparen_is : (t : Token) (r : List Token) → ends (t ∷ r) ≡ true → t ≡ RParen
rparen_is RParen r h = refl
rparen_is _ r h = absurd cc

-- a `)`
pub closes : (ts : List Placed) → ends (tokens_of ts) ≡ true → none_left (tokens_of ts) ≡ false → ts ≡ close_at (first_place ts) ∷ drop 1 ts
unfolding first_place
closes [] h more = absurd cc
closes (p ∷ ts) h more = ap (λ (q : Placed). q ∷ ts) (placed_is p RParen p.offset (rparen_is p.token (tokens_of ts) h) refl)

pub empty : (ts : List Placed) → none_left (tokens_of ts) ≡ true → ts ≡ []
empty [] h = refl
empty (p ∷ ts) h = absurd cc

pub not_empty : (ts : List Placed) → none_left (tokens_of ts) ≡ false → ts ≢ []
not_empty [] h e = absurd cc
not_empty (p ∷ ts) h e = absurd cc

plain_is : (t : Token) (r : List Token) → ends (t ∷ r) ≡ false → begins_lparen (t ∷ r) ≡ false → is_paren t ≡ false
plain_is LParen r h o = absurd cc
plain_is RParen r h o = absurd cc
plain_is _ r h o = refl

-- a token that isn't a parenthesis
pub plain : (ts : List Placed) → ends (tokens_of ts) ≡ false → begins_lparen (tokens_of ts) ≡ false → (p : Placed) × (is_paren p.token ≡ false) × (ts ≡ p ∷ drop 1 ts)
plain [] h o = absurd cc
plain (p ∷ ts) h o = (p, plain_is p.token (tokens_of ts) h o, refl)

-- the offset of a word that is next
pub offset_is : (w : List ℕ) (ts : List Placed) (n : ℕ) → begins_word w (tokens_of ts) ≡ true → IsPlaceOf n ts → Some n ≡ offset_if w ts
offset_is w [] n h at = absurd cc
offset_is w (p ∷ ts) n h at = rw h (ap (λ (m : ℕ). Some m) at)

pub no_offset : (w : List ℕ) (ts : List Placed) → begins_word w (tokens_of ts) ≡ false → None ≡ offset_if w ts
no_offset w [] h = refl
no_offset w (p ∷ ts) h = rw h refl

pub goes_on : (ts : List Placed) → ends (tokens_of ts) ≡ false → ts ≢ []
goes_on [] h e = absurd cc
goes_on (p ∷ ts) h e = absurd cc

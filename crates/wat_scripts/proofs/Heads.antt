-- The group `( module .. )`: its head, and the word `definition`.
use Rattle.std.proofs.Common.{◌≡◌, ℕ, ◌+◌, Bool, false, true, not, ◌&&◌, List, [], ◌∷◌, ◌++◌, drop, refl, ap, sym, ◌∙◌, inl, inr, Option, Some, None, codes, if◌then◌else◌}
use Rattle.std.proofs.lemmas.List.{append-nil}
use Rattle.std.specs.Cmp.{first_so, second_so}
use Rattle.wat_lexer.specs.Laws.Prelude.{cases_Bool}
use Rattle.wat_lexer.specs.Prelude.{Token, Placed, RParen, Keyword, tokens_of}
use Rattle.wat_lexer.specs.View.{is_paren}
use Rattle.wat_tokens.specs.Tests.{begins_word, begins_id, begins_lparen, begins_group, second}
use Rattle.wat_tokens.specs.Visible.{IsPlaceOf, closing}
use Rattle.wat_scripts.specs.Scripts.{open_at, close_at, word_at, AllClosed, after_id, after_word, after_head, is_module, names_definition, offset_if, definition_of}
use Rattle.wat_scripts.specs.Steps.{PassesGroup}
use Rattle.wat_scripts.specs.declared.modules.ScriptModule.{ScriptModule}
use Rattle.wat_scripts.proofs.Closing.{closing_over, group_found}
use Rattle.wat_scripts.proofs.Fronts.{first_place, opens, opens_at, words, id_plain, no_offset}

-- ---- nothing after the group's `)` is asked

tokens_append : (ts us : List Placed) → tokens_of (ts ++ us) ≡ tokens_of ts ++ tokens_of us
tokens_append [] us = refl
tokens_append (p ∷ ts) us = ap (λ (l : List Token). p.token ∷ l) (tokens_append ts us)

begins_cut : (w : List ℕ) (t r : List Token) → begins_word w (t ++ RParen ∷ r) ≡ begins_word w t
begins_cut w [] r = refl
begins_cut w (x ∷ t) r = refl

after_id_cut : (t r : List Token) → after_id (t ++ RParen ∷ r) ≡ after_id t ++ RParen ∷ r
after_id_cut [] r = refl
after_id_cut (x ∷ t) r = elim (cases_Bool (begins_id (x ∷ t))) [ inl h ↦ rw h refl | inr h ↦ rw h refl ]

after_word_cut : (w : List ℕ) (t r : List Token) → after_word w (t ++ RParen ∷ r) ≡ after_word w t ++ RParen ∷ r
after_word_cut w [] r = refl
after_word_cut w (x ∷ t) r = elim (cases_Bool (begins_word w (x ∷ t))) [ inl h ↦ rw h refl | inr h ↦ rw h refl ]

after_head_cut : (t r : List Token) → after_head (t ++ RParen ∷ r) ≡ after_head t ++ RParen ∷ r
after_head_cut [] r = refl
after_head_cut (x ∷ t) r = elim (cases_Bool (begins_word (codes "definition") (x ∷ t))) [
  | inl h ↦ rw h (after_id_cut t r)
  | inr h ↦ rw h (ap (λ (l : List Token). after_word (codes "definition") l) (after_id_cut (x ∷ t) r) ∙ after_word_cut (codes "definition") (after_id (x ∷ t)) r)
]

module_cut : (t r : List Token) → is_module (t ++ RParen ∷ r) ≡ is_module t
module_cut t r =
    let q : begins_word (codes "quote") (after_head (t ++ RParen ∷ r)) ≡ begins_word (codes "quote") (after_head t) = ap (λ (l : List Token). begins_word (codes "quote") l) (after_head_cut t r) ∙ begins_cut (codes "quote") (after_head t) r in
    let i : begins_word (codes "instance") (after_id (t ++ RParen ∷ r)) ≡ begins_word (codes "instance") (after_id t) = ap (λ (l : List Token). begins_word (codes "instance") l) (after_id_cut t r) ∙ begins_cut (codes "instance") (after_id t) r in
    ap (λ (b : Bool). not b && not (begins_word (codes "instance") (after_id (t ++ RParen ∷ r)))) q ∙ ap (λ (b : Bool). not (begins_word (codes "quote") (after_head t)) && not b) i

pub module_is : (body us : List Placed) (to : ℕ) → is_module (tokens_of (body ++ close_at to ∷ us)) ≡ is_module (tokens_of body)
module_is body us to = ap (λ (l : List Token). is_module l) (tokens_append body (close_at to ∷ us)) ∙ module_cut (tokens_of body) (tokens_of us)

pub definition_is : (body us : List Placed) (to : ℕ) → definition_of (body ++ close_at to ∷ us) ≡ definition_of body
definition_is [] us to = refl
definition_is (p ∷ []) us to = refl
definition_is (p ∷ q ∷ body) us to = refl

-- ---- the word `definition`

keyword_no_id : (w : List ℕ) (t : Token) (r : List Token) → begins_word w (t ∷ r) ≡ true → (begins_id (t ∷ r) ≡ false) × (is_paren t ≡ false)
keyword_no_id w (Keyword k) r h = (refl, refl)
keyword_no_id w _ r h = absurd cc

plain_over : (p : Placed) (ts : List Placed) → is_paren p.token ≡ false → closing 0 (p ∷ ts) ≡ closing 0 ts
plain_over p ts plain = closing_over 0 (p ∷ []) ts (AllClosed.token p [] plain AllClosed.none)

no_word : (b : Bool) → (b && false) ≡ true → ⊥
no_word b h =
    let denied = second_so b false h in
    absurd (cc)

-- an identifier and the word follow the next token
pub after_name : (ts : List Placed) → second names_definition (tokens_of ts) ≡ true → (offset_if (codes "definition") (drop 1 (drop 1 ts)) ≡ definition_of (drop 1 ts)) × (closing 0 (drop 1 (drop 1 (drop 1 ts))) ≡ closing 0 (drop 1 ts))
after_name [] h = absurd cc
after_name (m ∷ []) h = absurd cc
after_name (m ∷ i ∷ []) h = absurd (no_word (begins_id (tokens_of (i ∷ []))) h)
after_name (m ∷ i ∷ d ∷ ts) h =
    let id : begins_id (tokens_of (i ∷ d ∷ ts)) ≡ true = first_so (begins_id (tokens_of (i ∷ d ∷ ts))) _ h in
    let word : begins_word (codes "definition") (tokens_of (d ∷ ts)) ≡ true = second_so (begins_id (tokens_of (i ∷ d ∷ ts))) _ h in (
      rw h refl,
      sym (plain_over i (d ∷ ts) (id_plain i.token (tokens_of (d ∷ ts)) id) ∙ plain_over d ts (keyword_no_id (codes "definition") d.token (tokens_of ts) word).1),
    )

-- the word follows the next token
pub after_none : (ts : List Placed) → second (begins_word (codes "definition")) (tokens_of ts) ≡ true → (offset_if (codes "definition") (drop 1 ts) ≡ definition_of (drop 1 ts)) × (closing 0 (drop 1 (drop 1 ts)) ≡ closing 0 (drop 1 ts))
after_none [] h = absurd cc
after_none (m ∷ []) h = absurd cc
after_none (m ∷ d ∷ ts) h =
    let (denied, plain) = keyword_no_id (codes "definition") d.token (tokens_of ts) h in
    (rw denied refl, sym (plain_over d ts plain))

-- no such word
pub no_definition : (ts : List Placed) → second names_definition (tokens_of ts) ≡ false → second (begins_word (codes "definition")) (tokens_of ts) ≡ false → None ≡ definition_of (drop 1 ts)
no_definition [] h k = refl
no_definition (m ∷ ts) h k = rw h (no_offset (codes "definition") ts k)

-- ---- the group

-- a group `( module` is next
pub module_begins : (ts : List Placed) (n : ℕ) → begins_group (codes "module") (tokens_of ts) ≡ true → IsPlaceOf n ts → (at : ℕ) × (ts ≡ open_at n ∷ word_at (codes "module") at ∷ drop 1 (drop 1 ts))
module_begins ts n h at =
    let opened : ts ≡ open_at n ∷ drop 1 ts = opens_at ts n (first_so (begins_lparen (tokens_of ts)) _ h) at in
    let word : begins_word (codes "module") (tokens_of (drop 1 ts)) ≡ true = ap (λ (l : List Placed). begins_group (codes "module") (tokens_of l)) (sym opened) ∙ h in
    let is = words (codes "module") (drop 1 ts) word in
    (_, opened ∙ ap (λ (l : List Placed). open_at n ∷ l) is)

-- the group's module: `kept` and `definition` as they are found from the tokens after its `(`
pub module_passes : (ts us : List Placed) (start to : ℕ) (kept : Bool) (definition : Option ℕ) (old : List ScriptModule) → begins_group (codes "module") (tokens_of ts) ≡ true → IsPlaceOf start ts → closing 0 (drop 1 (drop 1 ts)) ≡ Some (to, us) → kept ≡ second is_module (tokens_of (drop 1 ts)) → definition ≡ definition_of (drop 1 (drop 1 ts)) → PassesGroup ts us old (old ++ (if kept then (record { start = start; end = to + 1; definition = definition }) ∷ [] else []))
module_passes ts us start to kept definition old h place ends kept_is definition_found =
    let (at, is) = module_begins ts start h place in
    let (body, body_is, c) = group_found (drop 1 (drop 1 ts)) to us ends in
    let k : kept ≡ is_module (tokens_of body) = kept_is ∙ ap (λ (l : List Placed). second is_module (tokens_of (drop 1 l))) is ∙ ap (λ (l : List Placed). is_module (tokens_of l)) body_is ∙ module_is body us to in
    let d : definition ≡ definition_of body = definition_found ∙ ap definition_of body_is ∙ definition_is body us to in
    record {
      from = start;
      to = to;
      inner = word_at (codes "module") at ∷ body;
      group = is ∙ ap (λ (l : List Placed). open_at start ∷ word_at (codes "module") at ∷ l) body_is;
      closed = AllClosed.token (word_at (codes "module") at) body refl c;
      found = rw (k, d) refl;
    }

-- the group isn't closed
pub module_unclosed : (ts : List Placed) → begins_group (codes "module") (tokens_of ts) ≡ true → closing 0 (drop 1 (drop 1 ts)) ≡ None → closing 0 (drop 1 ts) ≡ None
module_unclosed ts h denied =
    let opened : ts ≡ open_at (first_place ts) ∷ drop 1 ts = opens ts (first_so (begins_lparen (tokens_of ts)) _ h) in
    let word : begins_word (codes "module") (tokens_of (drop 1 ts)) ≡ true = ap (λ (l : List Placed). begins_group (codes "module") (tokens_of l)) (sym opened) ∙ h in
    let is = words (codes "module") (drop 1 ts) word in
    ap (λ (l : List Placed). closing 0 l) is ∙ plain_over (word_at (codes "module") _) (drop 1 (drop 1 ts)) refl ∙ denied

-- ---- another group

other_cut : (inner us : List Placed) (to : ℕ) → begins_word (codes "module") (tokens_of (inner ++ close_at to ∷ us)) ≡ begins_word (codes "module") (tokens_of inner)
other_cut inner us to = ap (λ (l : List Token). begins_word (codes "module") l) (tokens_append inner (close_at to ∷ us)) ∙ begins_cut (codes "module") (tokens_of inner) (tokens_of us)

pub other_passes : (ts us : List Placed) (to : ℕ) (old new : List ScriptModule) → begins_lparen (tokens_of ts) ≡ true → begins_group (codes "module") (tokens_of ts) ≡ false → closing 0 (drop 1 ts) ≡ Some (to, us) → new ≡ old → PassesGroup ts us old new
other_passes ts us to old new h denied ends same =
    let opened = opens ts h in
    let (inner, inner_is, c) = group_found (drop 1 ts) to us ends in
    let is = opened ∙ ap (λ (l : List Placed). open_at (first_place ts) ∷ l) inner_is in
    let not_module : begins_word (codes "module") (tokens_of inner) ≡ false = sym (other_cut inner us to) ∙ ap (λ (l : List Placed). begins_group (codes "module") (tokens_of l)) (sym is) ∙ denied in
    record {
      from = first_place ts;
      to = to;
      inner = inner;
      group = is;
      closed = c;
      found = rw not_module (same ∙ sym (append-nil old));
    }

-- ---- a group that is a command

-- the first token of the group is its word
pub module_inner : {ts us : List Placed} {old new : List ScriptModule} (g : PassesGroup ts us old new) → begins_group (codes "module") (tokens_of ts) ≡ true → (at : ℕ) × (body : List Placed) × (g.inner ≡ word_at (codes "module") at ∷ body)
module_inner {ts} {us} g h =
    let word : begins_word (codes "module") (tokens_of (g.inner ++ close_at g.to ∷ us)) ≡ true = ap (λ (l : List Placed). begins_group (codes "module") (tokens_of l)) (sym g.group) ∙ h in
    (_, drop 1 g.inner, words (codes "module") g.inner (sym (other_cut g.inner us g.to) ∙ word))

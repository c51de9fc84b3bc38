-- A module in its group: the visible tokens around it if no annotation is known, and if the five names are known.
use Rattle.std.proofs.Common.{◌≡◌, ◌≢◌, ℕ, ◌+◌, Bool, true, false, List, [], ◌∷◌, ◌++◌, length, drop, Some, None, refl, sym, ap, ◌∙◌, subst, inl, inr, Option, Result, Ok, Err, IfOk, IfErr, MatchResult, suc}
use Rattle.wat_fields.specs.Prelude.{one_reads, annotated, as_lparen}
use Rattle.wat_core.specs.Prelude.{cases_Bool, ModuleModel, module_, IsModule, SpellsModule, seen_behind, none_seen, IsCut, begins_hidden_group, shuts, deeper, visible, visible_tokens, hidden_count_at, hidden_count, State, behind, ends, Token, Placed, LParen, RParen, tokens_of, seen, behind_one}
use Rattle.wat_tokens.specs.State.{begun}
use Rattle.wat_core.specs.Laws.Sight.{begins_hidden_anyway}
use Rattle.wat_tokens.specs.Production.{Front}
use Rattle.wat_tokens.specs.Visible.{placed_behind}
use Rattle.wat_tokens.specs.Laws.State.{behind_then}
use Rattle.wat_tokens.specs.Laws.Visible.{tokens_behind}
use Rattle.wat_tokens.specs.Laws.Groups.{lparen_is}

-- ---- a `)` that is visible with the five names is visible without them, at the same place

-- the same tokens are hidden before it
record SameClose (place : Option ℕ) (t : List Token) : Type 0 where
  at : hidden_count_at false place t ≡ hidden_count_at true place t
  more : List Token
  seen : visible false place t ≡ RParen ∷ more

close_at : (place : Option ℕ) (t : List Token) (l : List Token) → visible true place t ≡ RParen ∷ l → SameClose place t
unfolding visible hidden_count_at
close_at None [] l e = absurd cc
close_at (Some d) [] l e = absurd cc
close_at None (y ∷ r) l e = elim (cases_Bool (begins_hidden_group true (y ∷ r))) [
  | inl h ↦ (let f : visible true (Some 0) r ≡ RParen ∷ l = rw h at e in
      let p = close_at (Some 0) r l f in
      let g = begins_hidden_anyway (y ∷ r) h in
      record { at = rw (h, g) (ap (λ (n : ℕ). suc n) p.at); more = p.more; seen = rw g p.seen })
  | inr h ↦ (let f : y ∷ visible true None r ≡ RParen ∷ l = rw h at e in
      let here : RParen ≡ y = cc in
      subst (λ (x : Token). SameClose None (x ∷ r)) here (record { at = refl; more = visible false None r; seen = refl }))
]
close_at (Some d) (y ∷ r) l e = elim (cases_Bool (shuts y d)) [
  | inl h ↦ (let f : visible true None r ≡ RParen ∷ l = rw h at e in
      let p = close_at None r l f in
      record { at = rw h (ap (λ (n : ℕ). suc n) p.at); more = p.more; seen = rw h p.seen })
  | inr h ↦ (let f : visible true (Some (deeper y d)) r ≡ RParen ∷ l = rw h at e in
      let p = close_at (Some (deeper y d)) r l f in
      record { at = rw h (ap (λ (n : ℕ). suc n) p.at); more = p.more; seen = rw h p.seen })
]

pub record ClosesAlike (t : List Token) : Type 0 where
  pub more : List Token
  pub seen : visible_tokens false t ≡ RParen ∷ more
  pub same_rest : behind false 1 t ≡ behind true 1 t

pub closes_alike : (t l : List Token) → visible_tokens true t ≡ RParen ∷ l → ClosesAlike t
unfolding visible_tokens hidden_count behind
closes_alike t l e = let p = close_at None t l e in record { more = p.more; seen = p.seen; same_rest = ap (λ (n : ℕ). drop (n + 1) t) p.at }

-- ---- the end of the group

ends_cases : (t : List Token) → ends t ≡ true → t ≢ [] → (l : List Token) × (t ≡ RParen ∷ l)
ends_cases [] e some = absurd (some refl)
ends_cases (RParen ∷ l) e some = (l, refl)
ends_cases (_ ∷ l) e some = absurd cc

-- If no annotation is known and only `)` is visible after a module, that `)` is visible with the five names.
-- After that `)` no token is visible.
pub last_seen : (t : List Token) → ends (visible_tokens true t) ≡ true → visible_tokens false t ≡ RParen ∷ [] → (more : List Token) × (visible_tokens true t ≡ RParen ∷ more) × (visible_tokens false (behind true 1 t) ≡ [])
last_seen t e alone =
    let some : visible_tokens true t ≢ [] = λ none. (let f = none_seen t none in cc) in
    let (more, is) = ends_cases (visible_tokens true t) e some in
    let p = closes_alike t more is in
    (more, is, ap (λ (s : List Token). visible_tokens false s) (sym p.same_rest) ∙ seen_behind false t RParen [] alone)

-- the converse
pub alone_seen : (t more : List Token) → visible_tokens true t ≡ RParen ∷ more → visible_tokens false (behind true 1 t) ≡ [] → visible_tokens false t ≡ RParen ∷ []
alone_seen t more is none =
    let p = closes_alike t more is in
    let q = seen_behind false t RParen p.more p.seen in
    let rest : p.more ≡ [] = sym q ∙ ap (λ (s : List Token). visible_tokens false s) p.same_rest ∙ none in
    p.seen ∙ ap (λ (l : List Token). RParen ∷ l) rest

-- ---- the whole group

-- q is directly after the `(` at the beginning of a text
pub record Opened (text : List ℕ) (q : State) : Type 0 where
  pub all : List Placed
  pub cut : IsCut text all
  pub left : List Token
  pub opens : visible_tokens false (tokens_of all) ≡ LParen ∷ left
  pub rest : tokens_of q.rest ≡ behind false 1 (tokens_of all)
  pub off : q.known ≡ false

-- a parser at the first token of the text's cut, which may keep spans
abbrev pub IsBegun : List ℕ → State → Type 0
IsBegun text p = (ts : List Placed) × (spans : Bool) × IsCut text ts × (p ≡ record (begun ts) { tracks = spans })

pub opened : (text : List ℕ) (p q : State) (u : Unit {0}) → IsBegun text p → one_reads as_lparen p.left ≡ Some (u, q.left) → q.rest ≡ behind_one p.known p.rest → q.known ≡ p.known → Opened text q
unfolding placed_behind
opened text p q u (ts, spans, cut, is) reads stands known = record {
  all = ts;
  cut = cut;
  left = q.left;
  opens = sym (ap (λ (s : State). s.left) is) ∙ lparen_is p.left q.left u reads;
  rest = ap tokens_of (stands ∙ ap (λ (s : State). behind_one s.known s.rest) is) ∙ tokens_behind false 1 ts;
  off = known ∙ ap (λ (s : State). s.known) is;
}

-- a text has one cut
abbrev pub OneCut : Type 0
OneCut = (text : List ℕ) (ts us : List Placed) → IsCut text ts → IsCut text us → ts ≡ us

-- q is after `(`, and e is after the tokens that were taken then
module _ (text : List ℕ) (q e : State) (o : Opened text q) where
  off_too : e.known ≡ q.known → e.left ≡ seen e.known e.rest → e.left ≡ seen false e.rest
  off_too known is = is ∙ ap (λ (k : Bool). seen k e.rest) (known ∙ o.off)

  -- after the `)` that follows c
  next : (c : List Token) → e.rest ≡ placed_behind true (length c) q.rest → behind true 1 (tokens_of e.rest) ≡ behind true (length c + 1) (behind false 1 (tokens_of o.all))
  next c s = sym (tokens_behind true 1 e.rest) ∙ ap (λ (ts : List Placed). tokens_of (placed_behind true 1 ts)) s ∙ ap tokens_of (behind_then true (length c) 1 q.rest) ∙ tokens_behind true (length c + 1) q.rest ∙ ap (λ (r : List Token). behind true (length c + 1) r) o.rest

  pub module_found : (m : ModuleModel) → Front module_.spells (annotated q).left (m, (annotated e).left) → ends (annotated e).left ≡ true → ((c : List Token) → (annotated q).left ≡ c ++ (annotated e).left → e.rest ≡ placed_behind true (length c) q.rest) → e.known ≡ q.known → e.left ≡ seen e.known e.rest → e.left ≡ RParen ∷ [] → SpellsModule text m
  module_found m (c, cut, spells) end follows known visible_is alone =
      let (more, is, none) = last_seen (tokens_of e.rest) end (sym (off_too known visible_is) ∙ alone) in (
        o.all,
        o.cut,
        record {
          first = o.left;
          opens = o.opens;
          tokens = c;
          more = more;
          inside = ap (λ (r : List Token). visible_tokens true r) (sym o.rest) ∙ cut ∙ ap (λ (l : List Token). c ++ l) is;
          spelled = subst (λ (l : List Token). module_.spells m c l) is spells;
          last = ap (λ (r : List Token). visible_tokens false r) (sym (next c (follows c cut))) ∙ none;
        },
      )

  this_cut : (v : ModuleModel) → OneCut → SpellsModule text v → IsModule (tokens_of o.all) v
  this_cut v one (ts, cut, s) = subst (λ (us : List Placed). IsModule (tokens_of us) v) (one text ts o.all cut o.cut) s

  inside_is : (v : ModuleModel) (s : IsModule (tokens_of o.all) v) → (annotated q).left ≡ s.tokens ++ RParen ∷ s.more
  inside_is v s = ap (λ (r : List Token). visible_tokens true r) o.rest ∙ s.inside

  -- if the text spells a module, the module's tokens are next
  pub module_stands : {P : Type 0} (v : ModuleModel) → OneCut → SpellsModule text v → ((c r : List Token) → (annotated q).left ≡ c ++ r → module_.spells v c r → P) → P
  module_stands v one spelled f =
      let s = this_cut v one spelled in
      f s.tokens (RParen ∷ s.more) (inside_is v s) s.spelled

  -- and after them only `)` is visible
  pub module_closes : (v : ModuleModel) → OneCut → SpellsModule text v → ((c r : List Token) → (annotated q).left ≡ c ++ r → module_.spells v c r → (annotated e).left ≡ r) → ((c : List Token) → (annotated q).left ≡ c ++ (annotated e).left → e.rest ≡ placed_behind true (length c) q.rest) → e.known ≡ q.known → e.left ≡ seen e.known e.rest → e.left ≡ RParen ∷ []
  module_closes v one spelled accepts follows known visible_is =
      let s = this_cut v one spelled in
      let is : (annotated e).left ≡ RParen ∷ s.more = accepts s.tokens (RParen ∷ s.more) (inside_is v s) s.spelled in
      let cut : (annotated q).left ≡ s.tokens ++ (annotated e).left = inside_is v s ∙ ap (λ (l : List Token). s.tokens ++ l) (sym is) in
      off_too known visible_is ∙ alone_seen (tokens_of e.rest) s.more is (ap (λ (r : List Token). visible_tokens false r) (next s.tokens (follows s.tokens cut)) ∙ s.last)

-- a value that is passed on keeps the facts that the call showed
pub passed_on : {X E : Type 0} (r : Result X E) (x : X) (P : X → Type 0) (Q : Type 0) → IfOk r (λ v. v ≡ x) → IfOk r (λ _. Q) → (Q → P x) → IfOk r P
passed_on (Ok y) x P Q is q f = subst P (sym is) (f q)
passed_on (Err e) x P Q is q f = tt

-- if the value isn't refused, the value is passed on
pub passed_only : {X E : Type 0} (r : Result X E) (x : X) (P : X → Type 0) (Q : E → Type 0) (S : Type 0) → IfOk r (λ v. v ≡ x) → IfErr r (λ _. S → ⊥) → S → P x → MatchResult r P Q
passed_only (Ok y) x P Q S is apart s p = subst P (sym is) p
passed_only (Err e) x P Q S is apart s p = absurd (apart s)

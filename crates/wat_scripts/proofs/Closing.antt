-- Closed groups, and the `)` that closes a group.
use Rattle.std.proofs.Common.{◌≡◌, ℕ, zero, suc, ◌+◌, ◌-◌, false, List, [], ◌∷◌, ◌++◌, refl, ap, sym, ◌∙◌, arith, append_assoc, Option, Some, None}
use Rattle.std.proofs.lemmas.List.{append_cancel_right}
use Rattle.wat_lexer.specs.Prelude.{Token, Placed, LParen, RParen, shuts, deeper}
use Rattle.wat_lexer.specs.View.{is_paren}
use Rattle.wat_tokens.specs.Visible.{closing, rest_by}
use Rattle.wat_scripts.specs.Scripts.{open_at, close_at, group_then, AllClosed}

plain_shuts : (t : Token) (n : ℕ) → is_paren t ≡ false → shuts t n ≡ false
plain_shuts LParen n h = absurd cc
plain_shuts RParen n h = absurd cc
plain_shuts _ n h = refl

plain_depth : (t : Token) (n : ℕ) → is_paren t ≡ false → deeper t n ≡ n
plain_depth LParen n h = absurd cc
plain_depth RParen n h = absurd cc
plain_depth _ n h = refl

closes_inner : (depth to : ℕ) (ts : List Placed) → closing (depth + 1) (close_at to ∷ ts) ≡ closing depth ts
unfolding closing
closes_inner depth to ts =
    ap (λ (n : ℕ). closing n (close_at to ∷ ts)) {x = depth + 1} {y = suc depth} (omega arith)
    ∙ ap (λ (n : ℕ). closing n ts) {x = suc depth - 1} {y = depth} (omega arith)

-- closed groups don't change where the group around them ends
pub closing_over : (depth : ℕ) (ts us : List Placed) → AllClosed ts → closing depth (ts ++ us) ≡ closing depth us
unfolding closing
closing_over depth ts us AllClosed.none = refl
closing_over depth ts us (AllClosed.token p rest plain c) = rw (plain_shuts p.token depth plain, plain_depth p.token depth plain) (closing_over depth rest us c)
closing_over depth ts us (AllClosed.group from to inner rest c k) =
    ap (λ (l : List Placed). closing (depth + 1) l) (append_assoc inner (close_at to ∷ rest) us)
    ∙ closing_over (depth + 1) inner (close_at to ∷ (rest ++ us)) c
    ∙ closes_inner depth to (rest ++ us)
    ∙ closing_over depth rest us k

pub group_ends : (inner rest : List Placed) (to : ℕ) → AllClosed inner → closing 0 (inner ++ close_at to ∷ rest) ≡ Some (to, rest)
unfolding closing
group_ends inner rest to c = closing_over 0 inner (close_at to ∷ rest) c

-- ---- the other way round

-- the tokens up to the `)` of a group in which `depth` more groups are open, and the tokens after it
abbrev Shuts : ℕ → List Placed → ℕ → List Placed → Type 0
Shuts zero ts to rest = (inner : List Placed) × (ts ≡ inner ++ close_at to ∷ rest) × AllClosed inner
Shuts (suc depth) ts to rest = (inner : List Placed) × (at : ℕ) × (us : List Placed) × (ts ≡ inner ++ close_at at ∷ us) × AllClosed inner × Shuts depth us to rest

one_token : (depth : ℕ) (p : Placed) (ts : List Placed) (to : ℕ) (rest : List Placed) → is_paren p.token ≡ false → Shuts depth ts to rest → Shuts depth (p ∷ ts) to rest
one_token zero p ts to rest plain (inner, e, c) = (p ∷ inner, ap (λ (l : List Placed). p ∷ l) e, AllClosed.token p inner plain c)
one_token (suc depth) p ts to rest plain (inner, at, us, e, c, s) = (p ∷ inner, at, us, ap (λ (l : List Placed). p ∷ l) e, AllClosed.token p inner plain c, s)

regroup : (from at to : ℕ) (ts inner us more rest : List Placed) → ts ≡ inner ++ close_at at ∷ us → us ≡ more ++ close_at to ∷ rest → open_at from ∷ ts ≡ group_then from inner at more ++ close_at to ∷ rest
regroup from at to ts inner us more rest e f = ap (λ (l : List Placed). open_at from ∷ l) (e ∙ ap (λ (l : List Placed). inner ++ close_at at ∷ l) f ∙ sym (append_assoc inner (close_at at ∷ more) (close_at to ∷ rest)))

one_group : (depth from : ℕ) (ts : List Placed) (to : ℕ) (rest : List Placed) → Shuts (suc depth) ts to rest → Shuts depth (open_at from ∷ ts) to rest
one_group zero from ts to rest (inner, at, us, e, c, (more, f, k)) = (group_then from inner at more, regroup from at to ts inner us more rest e f, AllClosed.group from at inner more c k)
one_group (suc depth) from ts to rest (inner, at, us, e, c, (more, then, vs, f, k, s)) = (group_then from inner at more, then, vs, regroup from at then ts inner us more vs e f, AllClosed.group from at inner more c k, s)

sound_at : (depth : ℕ) (t : Token) (o : ℕ) (ts : List Placed) (to : ℕ) (rest : List Placed) → ((n : ℕ) → closing n ts ≡ Some (to, rest) → Shuts n ts to rest) → closing depth (record { token = t; offset = o } ∷ ts) ≡ Some (to, rest) → Shuts depth (record { token = t; offset = o } ∷ ts) to rest
unfolding closing
sound_at zero RParen o ts to rest ih e = ([], ap (λ (c : ℕ × List Placed). close_at c.0 ∷ c.1) {x = (o, ts)} {y = (to, rest)} (cc), AllClosed.none)
sound_at (suc depth) RParen o ts to rest ih e = ([], o, ts, refl, AllClosed.none, ih depth (ap (λ (n : ℕ). closing n ts) {x = depth} {y = suc depth - 1} (omega arith) ∙ e))
sound_at depth LParen o ts to rest ih e = one_group depth o ts to rest (ih (suc depth) (ap (λ (n : ℕ). closing n ts) {x = suc depth} {y = depth + 1} (omega arith) ∙ e))
sound_at depth _ o ts to rest ih e = one_token depth _ ts to rest refl (ih depth e)

never_ends : (depth to : ℕ) (rest : List Placed) → closing depth [] ≡ Some (to, rest) → ⊥
unfolding closing
never_ends depth to rest e = absurd cc

closing_sound : (depth : ℕ) (ts : List Placed) (to : ℕ) (rest : List Placed) → closing depth ts ≡ Some (to, rest) → Shuts depth ts to rest
closing_sound depth [] to rest e = absurd (never_ends depth to rest e)
closing_sound depth (p ∷ ts) to rest e = sound_at depth p.token p.offset ts to rest (λ n. closing_sound n ts to rest) e

pub group_found : (ts : List Placed) (to : ℕ) (rest : List Placed) → closing 0 ts ≡ Some (to, rest) → (inner : List Placed) × (ts ≡ inner ++ close_at to ∷ rest) × AllClosed inner
group_found ts to rest e = closing_sound 0 ts to rest e

abbrev offset_in : Option (ℕ × List Placed) → ℕ
offset_in (Some c) = c.0
offset_in None = 0

pub same_end : {to at : ℕ} {us vs : List Placed} → ◌≡◌ {A = Option (ℕ × List Placed)} (Some (to, us)) (Some (at, vs)) → (to ≡ at) × (us ≡ vs)
same_end e = (ap offset_in e, ap rest_by e)

-- a group ends at one place
pub one_end : (inner also : List Placed) (to at : ℕ) (us vs : List Placed) → AllClosed inner → AllClosed also → inner ++ close_at to ∷ us ≡ also ++ close_at at ∷ vs → (inner ≡ also) × (to ≡ at) × (us ≡ vs)
one_end inner also to at us vs c k e =
    let (to_is, us_is) = same_end (sym (group_ends inner us to c) ∙ ap (λ (l : List Placed). closing 0 l) e ∙ group_ends also vs at k) in
    let rest : close_at to ∷ us ≡ close_at at ∷ vs = ap (λ (n : ℕ). close_at n ∷ us) to_is ∙ ap (λ (l : List Placed). close_at at ∷ l) us_is in
    (append_cancel_right inner also (close_at at ∷ vs) (ap (λ (l : List Placed). inner ++ l) (sym rest) ∙ e), to_is, us_is)

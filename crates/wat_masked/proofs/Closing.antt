-- The groups of changed tokens are closed if the groups of the tokens are closed.
use Rattle.std.proofs.Common.{◌≡◌, ℕ, zero, suc, ◌+◌, ◌-◌, List, [], ◌∷◌, drop, refl, sym, ◌∙◌, subst, Bool, true, false, Option, Some, None, if◌then◌else◌}
use Rattle.wat_lexer.specs.Prelude.{Closed, behind_group}
use Rattle.wat_masked.specs.Prelude.{shuts, deeper, Token, LParen, RParen, Keyword, Id, Annotation, Integer, String, Reserved, changed, all_changed}
use Rattle.wat_masked.specs.declared.change.Change.{Change}
use Rattle.wat_masked.proofs.Changes.{Fits, AllFit, no_literal}
use Rattle.wat_masked.specs.declared.change.Change.TheVariants as of

-- the two tokens change the depth of groups in the same way
abbrev Alike : Token → Token → Type 0
Alike t u = (d : ℕ) → (shuts u d ≡ shuts t d) × (deeper u d ≡ deeper t d)

alike : (c : Change) (t : Token) → Fits c t → Alike t (changed c t)
alike of.Keep t f d = (refl, refl)
alike of.Word LParen f d = (refl, refl)
alike of.Word RParen f d = (refl, refl)
alike of.Word (Keyword []) f d = (refl, refl)
alike of.Word (Keyword (b ∷ k)) f d = (refl, refl)
alike of.Word (Id n) f d = (refl, refl)
alike of.Word (Annotation n) f d = (refl, refl)
alike of.Word (Integer n) f d = (refl, refl)
alike of.Word (String n) f d = (refl, refl)
alike of.Word (Reserved n) f d = (refl, refl)
alike (of.Literal m) LParen (e, h) d = no_literal ((false ≡ false) × (d ≡ d + 1)) h
alike (of.Literal m) RParen (e, h) d = no_literal ((false ≡ shuts RParen d) × (d ≡ d - 1)) h
alike (of.Literal m) (Keyword k) f d = (refl, refl)
alike (of.Literal m) (Id n) f d = (refl, refl)
alike (of.Literal m) (Annotation n) f d = (refl, refl)
alike (of.Literal m) (Integer n) f d = (refl, refl)
alike (of.Literal m) (String n) f d = (refl, refl)
alike (of.Literal m) (Reserved n) f d = (refl, refl)

none_step : (a b : Bool) (r s : List Token) (x y : Option (List Token)) → a ≡ b → (x ≡ None → y ≡ None) → (if a then Some r else x) ≡ None → (if b then Some s else y) ≡ None
none_step true b r s x y e go h = cc
none_step false true r s x y e go h = cc
none_step false false r s x y e go h = go h

behind_changed : (cs : List Change) (ts : List Token) (d : ℕ) → AllFit cs ts → behind_group d (all_changed cs ts) ≡ None → behind_group d ts ≡ None
unfolding behind_group
behind_changed [] [] d f h = refl
behind_changed [] (t ∷ ts) d f h = absurd f
behind_changed (c ∷ cs) [] d f h = absurd f
behind_changed (c ∷ cs) (t ∷ ts) d (f, fs) h =
    let (s, p) = alike c t f d in
    none_step (shuts (changed c t) d) (shuts t d) (all_changed cs ts) ts (behind_group (deeper (changed c t) d) (all_changed cs ts)) (behind_group (deeper t d) ts) s (λ g. behind_changed cs ts (deeper t d) fs (subst (λ n. behind_group n (all_changed cs ts) ≡ None) p g)) h

drop_changed : (i : ℕ) (cs : List Change) (ts : List Token) → AllFit cs ts → (ds : List Change) × AllFit ds (drop i ts) × (drop i (all_changed cs ts) ≡ all_changed ds (drop i ts))
drop_changed zero cs ts f = (cs, f, refl)
drop_changed (suc i) [] [] f = ([], tt, refl)
drop_changed (suc i) [] (t ∷ ts) f = absurd f
drop_changed (suc i) (c ∷ cs) [] f = absurd f
drop_changed (suc i) (c ∷ cs) (t ∷ ts) (f, fs) = drop_changed i cs ts fs

pub open_was : (c : Change) (t : Token) → changed c t ≡ LParen → t ≡ LParen
open_was of.Keep t h = h
open_was of.Word (Keyword []) h = h
open_was of.Word (Keyword (b ∷ k)) h = cc
open_was of.Word t h = h
open_was (of.Literal m) t h = cc

pub note_was : (c : Change) (t : Token) (n : List ℕ) → changed c t ≡ Annotation n → t ≡ Annotation n
note_was of.Keep t n h = h
note_was of.Word (Keyword []) n h = h
note_was of.Word (Keyword (b ∷ k)) n h = cc
note_was of.Word t n h = h
note_was (of.Literal m) t n h = cc

group_was : (cs : List Change) (ts : List Token) (n : List ℕ) (rest : List Token) → AllFit cs ts → all_changed cs ts ≡ LParen ∷ (Annotation n ∷ rest) → behind_group 0 rest ≡ None → (more : List Token) × (ts ≡ LParen ∷ (Annotation n ∷ more)) × (behind_group 0 more ≡ None)
group_was [] [] n rest f e h = cc
group_was [] (t ∷ ts) n rest f e h = absurd f
group_was (c ∷ cs) [] n rest f e h = absurd f
group_was (c ∷ []) (t ∷ []) n rest f e h = cc
group_was (c ∷ []) (t ∷ s ∷ ts) n rest f e h = absurd f.1
group_was (c ∷ d ∷ cs) (t ∷ []) n rest f e h = absurd f.1
group_was (c ∷ d ∷ cs) (t ∷ s ∷ ts) n rest f e h =
    let a : changed c t ≡ LParen = cc in
    let b : changed d s ≡ Annotation n = cc in
    let m : rest ≡ all_changed cs ts = cc in
    let p = open_was c t a in
    let q = note_was d s n b in
    (ts, cc, behind_changed cs ts 0 f.1.1 (rw m at h))

pub closed_changed : (cs : List Change) (ts : List Token) → AllFit cs ts → Closed ts → Closed (all_changed cs ts)
closed_changed cs ts f closed i (n, rest, is, none) =
    let (ds, g, e) = drop_changed i cs ts f in
    closed i (let (more, was, behind) = group_was ds (drop i ts) n rest g (sym e ∙ is) none in (n, more, was, behind))

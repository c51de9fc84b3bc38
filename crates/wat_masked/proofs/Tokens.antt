-- Laws of masked tokens.
use Rattle.std.proofs.Common.{◌≡◌, ℕ, suc, List, [], ◌∷◌, length, refl, ap, Bool, true, false, not, ◌&&◌, Option, None, Some}
use Rattle.wat_masked.specs.Prelude.{begins_hidden_group, visible, visible_tokens, shuts, deeper, Token, Placed, tokens_of, is_open, change_of, changes, all_changed, begins_literal, is_float_word, has_none, patches, rebuilt, masked_text}
use Rattle.wat_masked.specs.declared.change.Change.{Change}
use Rattle.wat_masked.proofs.Changes.{AllFit, all_fit}
use Rattle.wat_masked.specs.declared.change.Change.TheVariants as of

length_changed : (cs : List Change) (ts : List Token) → AllFit cs ts → length (all_changed cs ts) ≡ length ts
length_changed [] [] f = refl
length_changed [] (t ∷ ts) f = absurd f
length_changed (c ∷ cs) [] f = absurd f
length_changed (c ∷ cs) (t ∷ ts) (f, fs) = ap (λ n. suc n) (length_changed cs ts fs)

pub same_length : (ts : List Token) → length (all_changed (changes false false None ts) ts) ≡ length ts
same_length ts = length_changed (changes false false None ts) ts (all_fit false false None ts)

-- NOTHING CHANGES

-- all tokens stay
abbrev all_kept : List Token → List Change
all_kept [] = []
all_kept (t ∷ ts) = of.Keep ∷ all_kept ts

-- after an unchanged token, a token stays unless it takes floats and a literal follows
keeps : (opened followed : Bool) (t : Token) → is_float_word opened t && followed ≡ false → change_of opened false followed t ≡ of.Keep
keeps opened followed t h = rw h refl

parts : (a b : Bool) → not a && b ≡ true → (a ≡ false) × (b ≡ true)
parts false b h = (refl, h)
parts true b h = absurd (let e : false ≡ true = h in cc)

stay_by : (hidden : Bool) (opened : Bool) (t : Token) (ts : List Token) → begins_hidden_group false (t ∷ ts) ≡ hidden → ((state : Option ℕ) (o : Bool) → has_none o (visible false state ts) ≡ true → changes o false state ts ≡ all_kept ts) → has_none opened (visible false None (t ∷ ts)) ≡ true → changes opened false None (t ∷ ts) ≡ of.Keep ∷ all_kept ts
unfolding visible visible_tokens changes has_none
stay_by true opened t ts e go h = let k : has_none opened (visible false (Some 0) ts) ≡ true = rw e at h in rw (e, go (Some 0) opened k) refl
stay_by false opened t ts e go h =
    let k : not (is_float_word opened t && begins_literal (visible false None ts)) && has_none (is_open t) (visible false None ts) ≡ true = rw e at h in
    let (a, b) = parts (is_float_word opened t && begins_literal (visible false None ts)) (has_none (is_open t) (visible false None ts)) k in
    rw (e, keeps opened (begins_literal (visible false None ts)) t a, go None (is_open t) b) refl

stay_in : (shut : Bool) (opened : Bool) (depth : ℕ) (t : Token) (ts : List Token) → shuts t depth ≡ shut → ((state : Option ℕ) → has_none opened (visible false state ts) ≡ true → changes opened false state ts ≡ all_kept ts) → has_none opened (visible false (Some depth) (t ∷ ts)) ≡ true → changes opened false (Some depth) (t ∷ ts) ≡ of.Keep ∷ all_kept ts
unfolding visible changes
stay_in true opened depth t ts e go h = let k : has_none opened (visible false None ts) ≡ true = rw e at h in rw (e, go None k) refl
stay_in false opened depth t ts e go h = let k : has_none opened (visible false (Some (deeper t depth)) ts) ≡ true = rw e at h in rw (e, go (Some (deeper t depth)) k) refl

stay : (opened : Bool) (state : Option ℕ) (ts : List Token) → has_none opened (visible false state ts) ≡ true → changes opened false state ts ≡ all_kept ts
unfolding visible changes
stay opened state [] h = refl
stay opened None (t ∷ ts) h = stay_by (begins_hidden_group false (t ∷ ts)) opened t ts refl (λ state o k. stay o state ts k) h
stay opened (Some depth) (t ∷ ts) h = stay_in (shuts t depth) opened depth t ts refl (λ state k. stay opened state ts k) h

kept_tokens : (ts : List Token) → all_changed (all_kept ts) ts ≡ ts
kept_tokens [] = refl
kept_tokens (t ∷ ts) = ap (λ l. t ∷ l) (kept_tokens ts)

kept_patches : (ts : List Placed) → patches (all_kept (tokens_of ts)) ts ≡ []
kept_patches [] = refl
kept_patches (p ∷ ps) = kept_patches ps

pub own_tokens : (ts : List Token) → has_none false (visible_tokens false ts) ≡ true → all_changed (changes false false None ts) ts ≡ ts
unfolding visible_tokens
own_tokens ts h = rw (stay false None ts h) (kept_tokens ts)

pub own_text : (text : List ℕ) (ts : List Placed) → has_none false (visible_tokens false (tokens_of ts)) ≡ true → masked_text text ts ≡ text
unfolding visible_tokens rebuilt
own_text text ts h = rw (stay false None (tokens_of ts) h, kept_patches ts) refl

-- Hidden groups in tokens and in masked tokens.
use Rattle.std.proofs.Common.{◌≡◌, ℕ, List, [], ◌∷◌, drop, refl, sym, ◌∙◌, ap, Bool, true, false, Option, None, Some}
use Rattle.wat_lexer.specs.Laws.Prelude.{hidden_count_at, VisibleFrom, begins_hidden_is}
use Rattle.wat_masked.specs.Prelude.{begins_hidden_group, visible, visible_tokens, hidden_count, shuts, deeper, Token, LParen, Annotation, Entry, is_open, entry_tokens, placed, begins_literal, change_of, is_changed, changed, all_changed, changes, masked_tokens, patches, by_test}
use Rattle.wat_masked.specs.declared.change.Change.{Change}
use Rattle.wat_masked.proofs.Closing.{open_was, note_was}

-- a hidden group still begins there after the changes
group_stays : (opened row : Bool) (t : Token) (ts : List Token) → begins_hidden_group false (t ∷ ts) ≡ true → begins_hidden_group false (t ∷ all_changed (changes opened row (Some 0) ts) ts) ≡ true
unfolding changes
group_stays opened row LParen (Annotation n ∷ r) h = refl
group_stays opened row LParen [] h = cc
group_stays opened row LParen (_ ∷ r) h = cc
group_stays opened row _ ts h = cc

-- the changes make no new hidden group
group_was : (cs : List Change) (ts : List Token) → begins_hidden_group false (all_changed cs ts) ≡ true → begins_hidden_group false ts ≡ true
group_was [] ts h = cc
group_was (c ∷ cs) [] h = cc
group_was (c ∷ []) (t ∷ ts) h = let (n, r, e) = begins_hidden_is (changed c t ∷ []) h in cc
group_was (c ∷ d ∷ cs) (t ∷ []) h = let (n, r, e) = begins_hidden_is (changed c t ∷ []) h in cc
group_was (c ∷ d ∷ cs) (t ∷ s ∷ ts) h =
    let (n, r, e) = begins_hidden_is (changed c t ∷ changed d s ∷ all_changed cs ts) h in
    let a : changed c t ≡ LParen = cc in
    let b : changed d s ≡ Annotation n = cc in
    rw (open_was c t a, note_was d s n b) refl

pub no_group : (cs : List Change) (ts : List Token) → begins_hidden_group false ts ≡ false → begins_hidden_group false (all_changed cs ts) ≡ false
no_group cs ts h = by_test {P = begins_hidden_group false (all_changed cs ts) ≡ false} (begins_hidden_group false (all_changed cs ts)) (λ e. let w = group_was cs ts e in cc) (λ e. e)

-- VISIBLE TOKENS

-- visible tokens, masked
abbrev pub row_masked : Bool → Bool → List Token → List Token
row_masked opened row [] = []
row_masked opened row (t ∷ ts) =
    changed (change_of opened row (begins_literal ts) t) t
    ∷ row_masked (is_open t) (is_changed (change_of opened row (begins_literal ts) t)) ts

seen_by : (hidden : Bool) (opened row : Bool) (t : Token) (ts : List Token) → begins_hidden_group false (t ∷ ts) ≡ hidden → ((o r : Bool) (state : Option ℕ) → visible false state (all_changed (changes o r state ts) ts) ≡ row_masked o r (visible false state ts)) → visible false None (all_changed (changes opened row None (t ∷ ts)) (t ∷ ts)) ≡ row_masked opened row (visible false None (t ∷ ts))
unfolding visible visible_tokens changes
seen_by true opened row t ts e go =
    rw (e, group_stays opened row t ts e) (go opened row (Some 0))
seen_by false opened row t ts e go =
    let change = change_of opened row (begins_literal (visible false None ts)) t in
    let cs = changes (is_open t) (is_changed change) None ts in
    rw (e, no_group (change ∷ cs) (t ∷ ts) e) (ap (λ l. changed change t ∷ l) (go (is_open t) (is_changed change) None))

seen_in : (shut : Bool) (opened row : Bool) (depth : ℕ) (t : Token) (ts : List Token) → shuts t depth ≡ shut → ((o r : Bool) (state : Option ℕ) → visible false state (all_changed (changes o r state ts) ts) ≡ row_masked o r (visible false state ts)) → visible false (Some depth) (all_changed (changes opened row (Some depth) (t ∷ ts)) (t ∷ ts)) ≡ row_masked opened row (visible false (Some depth) (t ∷ ts))
unfolding visible changes
seen_in true opened row depth t ts e go = rw e (go opened row None)
seen_in false opened row depth t ts e go = rw e (go opened row (Some (deeper t depth)))

-- the visible tokens of the masked tokens are the visible tokens, masked
seen : (opened row : Bool) (state : Option ℕ) (ts : List Token) → visible false state (all_changed (changes opened row state ts) ts) ≡ row_masked opened row (visible false state ts)
unfolding visible changes
seen opened row state [] = refl
seen opened row None (t ∷ ts) = seen_by (begins_hidden_group false (t ∷ ts)) opened row t ts refl (λ o r state. seen o r state ts)
seen opened row (Some depth) (t ∷ ts) = seen_in (shuts t depth) opened row depth t ts refl (λ o r state. seen o r state ts)

pub visible_masked : (ts : List Token) → visible_tokens false (masked_tokens ts) ≡ row_masked false false (visible_tokens false ts)
unfolding visible_tokens
visible_masked ts = seen false false None ts

pub same_visible : (ts us : List Token) → visible_tokens false ts ≡ visible_tokens false us → visible_tokens false (masked_tokens ts) ≡ visible_tokens false (masked_tokens us)
same_visible ts us e = visible_masked ts ∙ ap (row_masked false false) e ∙ sym (visible_masked us)

-- SKIPS

none_hidden : (x : Entry) (ls : List Entry) → begins_hidden_group false (entry_tokens (x ∷ ls)) ≡ false → hidden_count_at false None (entry_tokens (x ∷ ls)) ≡ 0
unfolding hidden_count_at
none_hidden x ls e = rw e refl

-- hidden groups in front have no patches
skip_by : (hidden : Bool) (opened row : Bool) (x : Entry) (ls : List Entry) → begins_hidden_group false (entry_tokens (x ∷ ls)) ≡ hidden → ((state : Option ℕ) → patches (changes opened row state (entry_tokens ls)) (placed ls) ≡ patches (changes opened row None (entry_tokens (drop (hidden_count_at false state (entry_tokens ls)) ls))) (placed (drop (hidden_count_at false state (entry_tokens ls)) ls))) → patches (changes opened row None (entry_tokens (x ∷ ls))) (placed (x ∷ ls)) ≡ patches (changes opened row None (entry_tokens (drop (hidden_count_at false None (entry_tokens (x ∷ ls))) (x ∷ ls)))) (placed (drop (hidden_count_at false None (entry_tokens (x ∷ ls))) (x ∷ ls)))
unfolding hidden_count_at changes
skip_by true opened row x ls e go = rw e (go (Some 0))
skip_by false opened row x ls e go = ap (λ n. patches (changes opened row None (entry_tokens (drop n (x ∷ ls)))) (placed (drop n (x ∷ ls)))) (sym (none_hidden x ls e))

skip_in : (shut : Bool) (opened row : Bool) (depth : ℕ) (x : Entry) (ls : List Entry) → shuts x.token depth ≡ shut → ((state : Option ℕ) → patches (changes opened row state (entry_tokens ls)) (placed ls) ≡ patches (changes opened row None (entry_tokens (drop (hidden_count_at false state (entry_tokens ls)) ls))) (placed (drop (hidden_count_at false state (entry_tokens ls)) ls))) → patches (changes opened row (Some depth) (entry_tokens (x ∷ ls))) (placed (x ∷ ls)) ≡ patches (changes opened row None (entry_tokens (drop (hidden_count_at false (Some depth) (entry_tokens (x ∷ ls))) (x ∷ ls)))) (placed (drop (hidden_count_at false (Some depth) (entry_tokens (x ∷ ls))) (x ∷ ls)))
unfolding hidden_count_at changes
skip_in true opened row depth x ls e go = rw e (go None)
skip_in false opened row depth x ls e go = rw e (go (Some (deeper x.token depth)))

skip_at : (opened row : Bool) (state : Option ℕ) (ls : List Entry) → patches (changes opened row state (entry_tokens ls)) (placed ls) ≡ patches (changes opened row None (entry_tokens (drop (hidden_count_at false state (entry_tokens ls)) ls))) (placed (drop (hidden_count_at false state (entry_tokens ls)) ls))
unfolding hidden_count_at changes
skip_at opened row state [] = refl
skip_at opened row None (x ∷ ls) = skip_by (begins_hidden_group false (entry_tokens (x ∷ ls))) opened row x ls refl (λ state. skip_at opened row state ls)
skip_at opened row (Some depth) (x ∷ ls) = skip_in (shuts x.token depth) opened row depth x ls refl (λ state. skip_at opened row state ls)

pub skip_patches : (opened row : Bool) (ls : List Entry) → patches (changes opened row None (entry_tokens ls)) (placed ls) ≡ patches (changes opened row None (entry_tokens (drop (hidden_count false (entry_tokens ls)) ls))) (placed (drop (hidden_count false (entry_tokens ls)) ls))
unfolding hidden_count
skip_patches opened row ls = skip_at opened row None ls

-- if no token in front is hidden, the first token is visible
pub first_visible : (ts : List Token) → hidden_count false ts ≡ 0 → begins_hidden_group false ts ≡ false
unfolding hidden_count hidden_count_at
first_visible [] h = refl
first_visible (t ∷ ts) h = by_test {P = begins_hidden_group false (t ∷ ts) ≡ false} (begins_hidden_group false (t ∷ ts)) (λ e. let k = rw e at h in cc) (λ e. e)

-- the first token is the first visible token
pub visible_front : {ls : List Entry} (x : Entry) (more : List Entry) → ls ≡ x ∷ more → begins_hidden_group false (entry_tokens ls) ≡ false → visible_tokens false (entry_tokens ls) ≡ x.token ∷ visible_tokens false (entry_tokens more)
unfolding visible_tokens visible
visible_front x more e h = rw (e, rw e at h) refl

-- whether the next visible token is a literal
pub literal_next : (ls : List Entry) (ts : List Token) → VisibleFrom false ls ts → begins_literal (entry_tokens ls) ≡ begins_literal ts
literal_next [] ts h = rw h refl
literal_next (x ∷ ls) ts h = rw h refl

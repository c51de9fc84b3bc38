-- Whether a token has changed so far. `done` is 0 as long as no token has.
use Rattle.std.proofs.Common.{◌≡◌, ℕ, zero, suc, ◌+◌, ◌<◌, List, [], ◌∷◌, ◌++◌, refl, sym, ◌∙◌, ap, arith, append-nil, Bool, true, false, not, ◌&&◌, if◌then◌else◌}
use Rattle.wat_masked.specs.Prelude.{visible, visible_tokens, entry_tokens, Entry, Token, is_open, begins_literal, is_float_word, is_changed, change_of, has_none}
use Rattle.wat_masked.specs.Written.{written, written_to, size_of}
use Rattle.wat_masked.specs.declared.change.Change.{Change}
use Rattle.wat_masked.specs.declared.change.Change.TheVariants as of

-- `all` are the visible tokens of the text, and `left` those that are left
pub record ChangedSoFar (all left : List Token) (opened row : Bool) (done : ℕ) (out : List ℕ) : Type 0 where
  pub none : done ≡ 0 → (out ≡ []) × (row ≡ false) × (has_none false all ≡ has_none opened left)
  pub some : 0 < done → has_none false all ≡ false

pub none_changed : (all left : List Token) (out : List ℕ) → left ≡ all → out ≡ [] → ChangedSoFar all left false false 0 out
none_changed all left out e n = record { none = λ _. (n, refl, ap (has_none false) (sym e)); some = λ h. absurd (omega arith) }

keeps : (b : Bool) → of.Keep ≡ (if b then of.Word else of.Keep) → b ≡ false
keeps true e = cc
keeps false e = refl

words : (b : Bool) → of.Word ≡ (if b then of.Word else of.Keep) → b ≡ true
words true e = refl
words false e = cc

no_literal : (n : ℕ) (b : Bool) → of.Literal n ≡ (if b then of.Word else of.Keep) → ⊥
no_literal n true e = cc
no_literal n false e = cc

kept : (all left : List Token) (t : Token) (opened row : Bool) (done : ℕ) (out : List ℕ) → of.Keep ≡ change_of opened row (begins_literal left) t → ChangedSoFar all (t ∷ left) opened row done out → ChangedSoFar all left (is_open t) false done (out ++ [])
unfolding has_none
kept all left t opened row done out is so = record {
  none = λ e.
      let (n, r, h) = so.none e in
      let b = is_float_word opened t && begins_literal left in
      let f : b ≡ false = keeps b (rw r at is) in
      (rw (append-nil out) n, refl, h ∙ ap (λ (x : Bool). not x && has_none (is_open t) left) f);
  some = so.some;
}

changed_now : (all left : List Token) (t : Token) (opened row : Bool) (done : ℕ) (out : List ℕ) (c : Change) → is_changed c ≡ true → c ≡ change_of opened row (begins_literal left) t → ChangedSoFar all (t ∷ left) opened row done out → has_none false all ≡ false
unfolding has_none
changed_now all left t opened row (suc done) out c h is so = so.some (omega arith)
changed_now all left t opened row zero out of.Keep h is so = cc
changed_now all left t opened row zero out of.Word h is so =
    let (n, r, e) = so.none refl in
    let b = is_float_word opened t && begins_literal left in
    let f : b ≡ true = words b (rw r at is) in
    e ∙ ap (λ (x : Bool). not x && has_none (is_open t) left) f
changed_now all left t opened row zero out (of.Literal m) h is so =
    let (n, r, e) = so.none refl in
    absurd (no_literal m (is_float_word opened t && begins_literal left) (rw r at is))

any_changed : (all left : List Token) (opened row : Bool) (done : ℕ) (out : List ℕ) → 0 < done → has_none false all ≡ false → ChangedSoFar all left opened row done out
any_changed all left opened row done out l h = record { none = λ e. absurd (omega arith); some = λ _. h }

-- after the change of a token at an offset
pub changed_more : {all : List Token} {opened row : Bool} {done : ℕ} {out : List ℕ} (left more : List Token) (t : Token) (text : List ℕ) (at : ℕ) (c : Change) → left ≡ t ∷ more → c ≡ change_of opened row (begins_literal more) t → (is_changed c ≡ true → 0 < size_of c) → ChangedSoFar all left opened row done out → ChangedSoFar all more (is_open t) (is_changed c) (written_to done at c) (out ++ written text done at c)
changed_more {all} {opened} {row} {done} {out} left more t text at of.Keep e is some so = kept all more t opened row done out is (rw e at so)
changed_more {all} {opened} {row} {done} {out} left more t text at of.Word e is some so =
    any_changed all more (is_open t) true (at + 1) (out ++ written text done at of.Word) (omega arith) (changed_now all more t opened row done out of.Word refl is (rw e at so))
changed_more {all} {opened} {row} {done} {out} left more t text at (of.Literal m) e is some so =
    any_changed all more (is_open t) true (at + m) (out ++ written text done at (of.Literal m)) (let s : 0 < m = some refl in omega arith) (changed_now all more t opened row done out (of.Literal m) refl is (rw e at so))

-- no token is left
pub none_at_end : {all : List Token} {opened row : Bool} {done : ℕ} {out : List ℕ} (ls : List Entry) → ls ≡ [] → done ≡ 0 → ChangedSoFar all (visible_tokens false (entry_tokens ls)) opened row done out → (out ≡ []) × (has_none false all ≡ true)
unfolding has_none visible_tokens visible
none_at_end ls e z so = let (n, r, h) = so.none z in (n, rw e at h)

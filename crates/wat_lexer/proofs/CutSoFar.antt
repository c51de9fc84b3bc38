-- The invariant of the cut: the tokens so far, and the cuts of the rest.
use Rattle.std.proofs.Common.{◌≡◌, ℕ, suc, ◌-◌, ◌<◌, ◌≤◌, List, [], ◌∷◌, ◌++◌, length, drop, refl, ap, subst, ◌∙◌, arith, sym, inl, inr, append_assoc, append-nil, length-drop, Bool, true, false, ◌||◌, ◌&&◌, ◌==◌, nat_lt, if◌then◌else◌}
use Rattle.std.proofs.Math.Bool.{and-true}
use Rattle.wat_lexer.specs.Laws.Prelude.{cases_Bool, map-append, nat_tests, and-false, offset_of, Entry, Token, Placed, is_open, is_annotation, has_annotation, Cuts, done, Fails, is_space, BlankTo, TokenTo, front, behind_spaces, entry_tok, entry_tokens, IfFault, FailsAt, front_cut, front_fails, if_either}
use Rattle.wat_lexer.specs.View.{WrongIs}
use Rattle.wat_lexer.specs.Laws.Fronts.{cut_front}
use Rattle.wat_lexer.specs.declared.fault.Error.{Error}
use Rattle.wat_lexer.specs.declared.fault.Fault.{Fault}
use Rattle.wat_lexer.proofs.Entries.{has_more}

-- the text's cuts are the tokens so far with the cuts of the rest; if the rest fails, the text
-- fails
pub record CutSoFar (text : List ℕ) (ts : List Placed) (behind : Bool) (rest : List ℕ) : Type 0 where
  pub sound : (us : List Placed) → Cuts (length text) behind rest us → Cuts (length text) false text (ts ++ us)
  pub complete : (vs : List Placed) → Cuts (length text) false text vs → (us : List Placed) × (vs ≡ ts ++ us) × Cuts (length text) behind rest us
  pub fails : (f : Fault) (at : List ℕ) → Fails behind rest f at → Fails false text f at

pub start : (text : List ℕ) → CutSoFar text [] false text
start text = record { sound = λ us c. c; complete = λ vs c. (vs, refl, c); fails = λ f at h. h }

pub over_blank : {text rest next : List ℕ} {ts : List Placed} {behind : Bool} → CutSoFar text ts behind rest → front behind rest ≡ BlankTo next → CutSoFar text ts false next
over_blank so e = record {
  sound = λ us c. so.sound us (front_cut (rw e c));
  complete = λ vs c. let (us, m, d) = so.complete vs c in (us, m, rw e at (cut_front d));
  fails = λ f at h. so.fails f at (front_fails (rw e h));
}

space_front : (behind : Bool) (b : ℕ) (t : List ℕ) → is_space b ≡ true → front behind (b ∷ t) ≡ BlankTo t
unfolding front
space_front behind b t e = rw e

spaces_fewer : (t : List ℕ) → length (behind_spaces t) ≤ length t
unfolding behind_spaces
spaces_fewer [] = omega arith
spaces_fewer (b ∷ t) = if_either (λ s. length s ≤ suc (length t)) (is_space b) (behind_spaces t) (b ∷ t) (λ _. omega (arith, spaces_fewer t)) (λ _. omega arith)

-- all spaces in front are blanks
spaces : {text : List ℕ} {ts : List Placed} {behind : Bool} (rest : List ℕ) → CutSoFar text ts behind rest → CutSoFar text ts (behind && (length (behind_spaces rest) == length rest)) (behind_spaces rest)
unfolding behind_spaces
spaces {behind = behind} [] so = rw (and-true behind) so
spaces {text} {ts} {behind} (b ∷ t) so = elim (cases_Bool (is_space b)) [
  | inl e ↦ (let fewer : (length (behind_spaces t) == suc (length t)) ≡ false = grind (arith, nat_tests, spaces_fewer t) in
      rw (e, fewer, and-false behind) (spaces t (over_blank so (space_front behind b t e))))
  | inr e ↦ (let none : behind_spaces (b ∷ t) ≡ b ∷ t = rw e in
      let same : (length (b ∷ t) == length (b ∷ t)) ≡ true = grind (arith, nat_tests) in
      subst (λ s. CutSoFar text ts (behind && (length s == length (b ∷ t))) s) (sym none) (rw (same, and-true behind) so))
]

pub over_spaces : {text : List ℕ} {ts : List Placed} {behind : Bool} (end next : ℕ) → end ≤ next → next ≤ length text → drop next text ≡ behind_spaces (drop end text) → CutSoFar text ts behind (drop end text) → CutSoFar text ts (behind && (next == end)) (drop next text)
over_spaces {text} {ts} {behind} end next h k e so =
    let same : (next == end) ≡ (length (behind_spaces (drop end text)) == length (drop end text)) = grind (arith, nat_tests, length-drop end text, length-drop next text, sym e) in
    rw (same, e) (spaces (drop end text) so)

-- whether a `(` is directly before the next piece, by the end of the last `(`
opened_next : (opens : Bool) (opened at end next : ℕ) → opened ≤ at → at < end → end ≤ next → (opens && (next == end)) ≡ ((next == (if opens then end else opened)) && nat_lt 0 next)
opened_next true opened at end next far order spaces = grind (arith, nat_tests)
opened_next false opened at end next far order spaces = grind (arith, nat_tests)

pub opened_within : (opens : Bool) (opened at end next : ℕ) → opened ≤ at → at < end → end ≤ next → (if opens then end else opened) ≤ next
opened_within true opened at end next far order spaces = spaces
opened_within false opened at end next far order spaces = omega arith

pub over_piece : {text : List ℕ} {ts : List Placed} (opens : Bool) (opened at end next : ℕ) → opened ≤ at → at < end → end ≤ next → next ≤ length text → drop next text ≡ behind_spaces (drop end text) → CutSoFar text ts opens (drop end text) → CutSoFar text ts ((next == (if opens then end else opened)) && nat_lt 0 next) (drop next text)
over_piece {text} {ts} opens opened at end next far order spaces within e so =
    subst (λ b. CutSoFar text ts b (drop next text)) (opened_next opens opened at end next far order spaces) (over_spaces end next spaces within e so)

pub over_token : {text rest next : List ℕ} {ts : List Placed} {t : Token} (offset : ℕ) {behind : Bool} → CutSoFar text ts behind rest → front behind rest ≡ TokenTo t next → offset ≡ length text - length rest → CutSoFar text (ts ++ record { token = t; offset = offset } ∷ []) (is_open t) next
over_token {text} {rest} {next} {ts} {t} offset so e place = record {
  sound = λ us c. rw append_assoc (so.sound (record { token = t; offset = offset } ∷ us) (front_cut (rw (e, place) (us, refl, c))));
  complete = λ vs c. let (us, m, d) = so.complete vs c in let (ws, n, k) = rw e at (cut_front d) in (ws, m ∙ ap (λ l. ts ++ l) n ∙ rw (place, append_assoc), k);
  fails = λ f at h. so.fails f at (front_fails (rw e h));
}

pub at_end : {text rest : List ℕ} {ts : List Placed} {behind : Bool} → CutSoFar text ts behind rest → rest ≡ [] → Cuts (length text) false text ts
at_end {text} {ts = ts} {behind} so e = rw append-nil at (so.sound [] (rw e (done (length text) behind)))

-- an error where no piece begins is the fault of the text
pub fault_here : (text : List ℕ) (at : ℕ) (ts : List Placed) (behind : Bool) (e : Error) → CutSoFar text ts behind (drop at text) → IfFault e (WrongIs text e (front behind (drop at text))) → IfFault e (FailsAt text e)
fault_here text at ts behind e so h = λ no_memory.
    let (wrong, within) = h no_memory in
    let o = offset_of e.span in
    (drop o text, so.fails e.fault (drop o text) (front_fails (rw wrong (refl, refl))), omega (arith, length-drop o text))

pub noted_more : (ls : List Entry) (x : Entry) (noted more : Bool) → noted ≡ has_annotation (entry_tokens ls) → more ≡ (noted || is_annotation (entry_tok x)) → more ≡ has_annotation (entry_tokens (ls ++ x ∷ []))
noted_more ls x noted more e f = rw (f, e, map-append entry_tok ls (x ∷ []), has_more (entry_tokens ls) (entry_tok x))

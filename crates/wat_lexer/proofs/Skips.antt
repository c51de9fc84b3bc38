-- Hidden tokens in front are passed in one step.
use Rattle.std.proofs.Common.{◌≡◌, ℕ, ◌+◌, ◌-◌, ◌≤◌, Bool, false, List, [], ◌∷◌, length, drop, Some, None, refl, arith, subst, drop-drop, inl, inr, Option}
use Rattle.wat_lexer.specs.Laws.Prelude.{cases_Bool, drop-map, length-map, Entry, Token, begins_hidden_group, shuts, deeper, visible, visible_tokens, hidden_count_at, hidden_count, entry_tok, entry_tokens, AreSkips, VisibleFrom, hidden_count_none}

pub skips_drop : (n : ℕ) (ls : List Entry) → AreSkips ls → AreSkips (drop n ls)
skips_drop n ls p known i = rw (drop-drop i n ls) (p known (n + i))

pub skips_later : (ls : List Entry) (a b : ℕ) → a ≤ b → AreSkips (drop a ls) → AreSkips (drop b ls)
skips_later ls a b le p = let n : a + (b - a) ≡ b = omega arith in rw (drop-drop (b - a) a ls, n) at (skips_drop (b - a) (drop a ls) p)

-- after the hidden tokens the same tokens are visible, and no hidden group begins there
pub record Passed (known : Bool) (place : Option ℕ) (t : List Token) : Type 0 where
  pub rest : visible known place t ≡ visible known None (drop (hidden_count_at known place t) t)
  pub stands : begins_hidden_group known (drop (hidden_count_at known place t) t) ≡ false
  pub within : hidden_count_at known place t ≤ length t

pub passed : (known : Bool) (place : Option ℕ) (t : List Token) → Passed known place t
unfolding visible hidden_count_at
passed known None [] = record { rest = refl; stands = refl; within = omega arith }
passed known (Some depth) [] = record { rest = refl; stands = refl; within = omega arith }
passed known None (x ∷ r) = elim (cases_Bool (begins_hidden_group known (x ∷ r))) [
  | inl e ↦ (let p = passed known (Some 0) r in record { rest = rw e p.rest; stands = rw e p.stands; within = rw e (omega (arith, p.within)) })
  | inr e ↦ record { rest = rw e (rw e); stands = rw e e; within = rw e (omega arith) }
]
passed known (Some depth) (x ∷ r) = elim (cases_Bool (shuts x depth)) [
  | inl e ↦ (let p = passed known None r in record { rest = rw e p.rest; stands = rw e p.stands; within = rw e (omega (arith, p.within)) })
  | inr e ↦ (let p = passed known (Some (deeper x depth)) r in record { rest = rw e p.rest; stands = rw e p.stands; within = rw e (omega (arith, p.within)) })
]

pub hidden_count_within : (known : Bool) (ls : List Entry) → hidden_count known (entry_tokens ls) ≤ length ls
unfolding hidden_count
hidden_count_within known ls = omega (arith, (passed known None (entry_tokens ls)).within, length-map ls entry_tok)

-- if no hidden group is in front, the visible tokens begin with the first token
visible_here : (known : Bool) (ls : List Entry) → begins_hidden_group known (entry_tokens ls) ≡ false → VisibleFrom known ls (visible_tokens known (entry_tokens ls))
unfolding visible_tokens visible
visible_here known [] h = refl
visible_here known (x ∷ ls) h = rw h

-- the visible tokens begin with the first token after the hidden tokens
pub visible_at : (known : Bool) (ls : List Entry) (n : ℕ) → n ≡ hidden_count known (entry_tokens ls) → VisibleFrom known (drop n ls) (visible_tokens known (entry_tokens ls))
unfolding visible_tokens hidden_count
visible_at known ls n e =
    let p = passed known None (entry_tokens ls) in
    let same : entry_tokens (drop n ls) ≡ drop (hidden_count_at known None (entry_tokens ls)) (entry_tokens ls) = rw (← drop-map entry_tok n ls, e) in
    subst (VisibleFrom known (drop n ls)) (rw (same, p.rest)) (visible_here known (drop n ls) (rw same p.stands))

-- the visible tokens are the same after the hidden tokens
pub visible_same : (known : Bool) (ls : List Entry) (n : ℕ) → n ≡ hidden_count known (entry_tokens ls) → visible_tokens known (entry_tokens (drop n ls)) ≡ visible_tokens known (entry_tokens ls)
unfolding visible_tokens hidden_count
visible_same known ls n e =
    let p = passed known None (entry_tokens ls) in
    let same : entry_tokens (drop n ls) ≡ drop (hidden_count_at known None (entry_tokens ls)) (entry_tokens ls) = rw (← drop-map entry_tok n ls, e) in
    rw (same, p.rest)

-- after the hidden tokens, no token in front is hidden
pub none_hidden : (known : Bool) (ls : List Entry) (n : ℕ) → n ≡ hidden_count known (entry_tokens ls) → hidden_count known (entry_tokens (drop n ls)) ≡ 0
unfolding hidden_count
none_hidden known ls n e =
    let p = passed known None (entry_tokens ls) in
    let same : entry_tokens (drop n ls) ≡ drop (hidden_count_at known None (entry_tokens ls)) (entry_tokens ls) = rw (← drop-map entry_tok n ls, e) in
    hidden_count_none known (entry_tokens (drop n ls)) (rw same p.stands)

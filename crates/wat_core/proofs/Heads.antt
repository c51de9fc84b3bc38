-- A module's head, and the tokens after its groups.
use Rattle.std.proofs.Common.{◌≡◌, ℕ, List, [], ◌∷◌, refl, sym, subst, Bool, true, false, Some, None}
use Rattle.wat_core.specs.Prelude.{Token, Placed, RParen, IsPlaceOf, shown, seen}
use Rattle.wat_tokens.specs.Laws.Visible.{BeginAlike, seen_shown}
use Rattle.wat_tokens.specs.PartSpells.{one_reads}
use Rattle.wat_tokens.specs.Tests.{as_rparen, none_left}
use Rattle.wat_core.specs.ModuleHead.{place_of, first_offset, begins_rparen}

-- ---- whether a `)` is next

pub no_rparen : (t : List Token) → one_reads as_rparen t ≡ None → begins_rparen t ≡ false
no_rparen (RParen ∷ r) e = absurd cc
no_rparen [] e = refl
no_rparen _ e = refl

pub one_rparen : (t : List Token) {x : Unit {0} × List Token} → one_reads as_rparen t ≡ Some x → begins_rparen t ≡ true
one_rparen (RParen ∷ r) e = refl
one_rparen _ e = absurd cc

-- ---- the offset of the next token

pub sees : (known : Bool) (t : List Token) (ts : List Placed) → t ≡ seen known ts → BeginAlike t (shown known ts)
sees known t ts e = subst (λ (l : List Token). BeginAlike l (shown known ts)) (sym e) (seen_shown known ts)

pub none_behind : (t : List Token) (ts : List Placed) → BeginAlike t ts → none_left t ≡ true → ts ≡ []
none_behind [] [] same e = refl
none_behind [] (p ∷ ts) same e = absurd same
none_behind (x ∷ t) ts same e = absurd cc

pub some_behind : (t : List Token) (ts : List Placed) (n size : ℕ) → BeginAlike t ts → none_left t ≡ false → IsPlaceOf n ts → n ≡ place_of size ts
some_behind (x ∷ t) (p ∷ ts) n size same e at = at
some_behind (x ∷ t) [] n size same e at = absurd same
some_behind [] ts n size same e at = absurd cc

pub first_behind : (t : List Token) (ts : List Placed) (size : ℕ) → BeginAlike t ts → none_left t ≡ false → first_offset ts ≡ Some (place_of size ts)
first_behind (x ∷ t) (p ∷ ts) size same e = refl
first_behind (x ∷ t) [] size same e = absurd same
first_behind [] ts size same e = absurd cc

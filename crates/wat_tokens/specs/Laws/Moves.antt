-- Laws: tokens that spell a part before one rest spell it before each alike rest.
use Rattle.std.proofs.Common.{◌≡◌, ◌≤◌, Bool, true, false, List, [], ◌∷◌, ◌++◌, length, Option, Some, None, arith, length-append, append_assoc, inl, inr}
use Rattle.wat_lexer.specs.Token.{Token, RParen}
use Rattle.wat_tokens.specs.Asks.{Asks, nothing, ask, also, behind, everything, Alike}
use Rattle.wat_tokens.specs.Parens.{AreBalanced}
use Rattle.wat_tokens.specs.Test.{Test, run, at_ends}
use Rattle.wat_tokens.specs.Production.{Production}
use Rattle.wat_tokens.specs.PartSpells.{seq_spells, where_spells, opt_spells}
use Rattle.wat_tokens.specs.ManySpells.{many_spells}
use Rattle.wat_tokens.specs.GroupSpells.{paren_spells, end_spells}
use Rattle.wat_tokens.specs.FollowedSpells.{followed_spells}
use Rattle.wat_tokens.specs.Laws.Many.{many_balanced}

-- the tokens of a value are at least `least` tokens, with balanced parentheses
past : {A : Type 0} (g : Production A) (a : Asks) (v : A) (c t u : List Token) → g.spells v c t
    → Alike (behind g.least a) t u → Alike a (c ++ t) (c ++ u)
past g a v c t u s l =
    let b : AreBalanced c = g.balanced v c t s in l c (g.takes v c t s) (omega (arith, b))

-- rests that are alike for everything are alike for a
pub all_asked : (a : Asks) (e t u : List Token) → Alike everything t u → Alike a (e ++ t) (e ++ u)
all_asked nothing e t u l = tt
all_asked (ask b test) e t u l = l e b test
all_asked (also a b) e t u l = (all_asked a e t u l, all_asked b e t u l)
all_asked (behind k a) e t u l = λ d few level. rw (← append_assoc d e t, ← append_assoc d e u)
    (all_asked a (d ++ e) t u l)
all_asked everything e t u l = λ d. rw (← append_assoc d e t, ← append_assoc d e u) (l (d ++ e))

-- what a part asks that is read if the test has the answer b
abbrev pub begun : {A : Type 0} → Bool → Test → Production A → Asks
begun b test g = also (behind g.least (ask b test)) g.asks

module _ {A : Type 0} where
  begun_moves : (b : Bool) (test : Test) (g : Production A) (v : A) (c t u : List Token)
      → Alike (begun b test g) t u → (run test (c ++ t) ≡ b) × g.spells v c t
      → (run test (c ++ u) ≡ b) × g.spells v c u
  begun_moves b test g v c t u l s =
      (past g (ask b test) v c t u s.1 l.0 s.0, g.moves v c t u l.1 s.1)

  pub where_moves : (test : Test) (g h : Production A) (v : A) (c t u : List Token)
      → Alike (also (begun true test g) (begun false test h)) t u
      → where_spells (λ r. run test r) g h v c t → where_spells (λ r. run test r) g h v c u
  where_moves test g h v c t u l (inl s) = inl (begun_moves true test g v c t u l.0 s)
  where_moves test g h v c t u l (inr s) = inr (begun_moves false test h v c t u l.1 s)

  pub opt_moves : (test : Test) (g : Production A) (v : Option A) (c t u : List Token)
      → Alike (also (begun true test g) (ask false test)) t u
      → opt_spells (λ r. run test r) g v c t → opt_spells (λ r. run test r) g v c u
  opt_moves test g (Some v) c t u l s = begun_moves true test g v c t u l.0 s
  opt_moves test g None c t u l s = (s.0, l.1 s.1)

  pub many_moves : (test : Test) (g : Production A) (v : List A) (c t u : List Token)
      → Alike (also (behind g.least (ask true test)) (also (behind 0 g.asks) (ask false test))) t u
      → many_spells (λ r. run test r) g v c t → many_spells (λ r. run test r) g v c u
  many_moves test g [] c t u l s = (s.0, l.1.1 s.1)
  many_moves test g (v ∷ vs) c t u l s =
      let all : AreBalanced c = many_balanced (λ r. run test r) g (v ∷ vs) c t s in
      let rest : AreBalanced s.1 = many_balanced (λ r. run test r) g vs s.1 t s.5 in
      let le : g.least ≤ length c =
      rw (s.2) (omega (arith, length-append s.0 s.1, g.takes v s.0 (s.1 ++ t) s.4)) in (
        s.0,
        s.1,
        s.2,
        l.0 c le (omega (arith, all)) s.3,
        g.moves v s.0 (s.1 ++ t) (s.1 ++ u) (l.1.0 s.1 (omega arith) (omega (arith, rest))) s.4,
        many_moves test g vs s.1 t u l s.5,
      )

  pub paren_moves : (g : Production A) (v : A) (c t u : List Token) → Alike (behind 1 g.asks) t u
      → paren_spells g v c t → paren_spells g v c u
  paren_moves g v c t u l s = (
    s.0,
    s.1,
    g.moves v s.0 (RParen ∷ t) (RParen ∷ u)
        (l (RParen ∷ []) (omega arith) (omega arith)) s.2,
  )

  pub end_moves : (g : Production A) (v : A) (c t u : List Token)
      → Alike (also g.asks (ask true at_ends)) t u → end_spells g v c t → end_spells g v c u
  end_moves g v c t u l s = (g.moves v c t u l.0 s.0, l.1 s.1)

module _ {A B : Type 0} where
  pub seq_moves : (g : Production A) (h : Production B) (v : A × B) (c t u : List Token)
      → Alike (also (behind h.least g.asks) h.asks) t u → seq_spells g h v c t
      → seq_spells g h v c u
  seq_moves g h v c t u l s = (
    s.0,
    s.1,
    s.2,
    g.moves v.0 s.0 (s.1 ++ t) (s.1 ++ u) (past h g.asks v.1 s.1 t u s.4 l.0) s.3,
    h.moves v.1 s.1 t u l.1 s.4,
  )

  pub followed_moves : (g : Production A) (h : A → Production B) (v : B) (c t u : List Token)
      → Alike everything t u → followed_spells g h v c t → followed_spells g h v c u
  followed_moves g h v c t u l s = (
    s.0,
    s.1,
    s.2,
    s.3,
    g.moves s.0 s.1 (s.2 ++ t) (s.2 ++ u) (all_asked g.asks s.2 t u l) s.4,
    (h s.0).moves v s.2 t u (all_asked (h s.0).asks [] t u l) s.5,
  )

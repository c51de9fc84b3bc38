-- Relations and readers of lists of parts.
use Rattle.std.specs.Prelude.{◌≡◌, ℕ, zero, suc, Bool, true, false, if◌then◌else◌, List, [], ◌∷◌, ◌++◌, length, Some, None}
use Rattle.wat_lexer.specs.Token.{Token}
use Rattle.wat_tokens.specs.Production.{Read, bind, Production}

-- ---- any number of parts: one more whenever the next tokens begin a part

module _ {A : Type 0} (begins : List Token → Bool) (g : Production A) where
  abbrev pub many_spells : List A → List Token → List Token → Type 0
  many_spells [] c r = (c ≡ []) × (begins r ≡ false)
  many_spells (v ∷ vs) c r =
      (d : List Token) × (e : List Token) × (c ≡ d ++ e) × (begins (c ++ r) ≡ true)
      × g.spells v d (e ++ r) × many_spells vs e r

  -- at most n parts
  unfoldable pub many_at : ℕ → List Token → Read (List A)
  many_at zero t = if begins t then None else Some ([], t)
  many_at (suc n) t =
      if begins t then bind (g.reads t) (λ v t'. bind (many_at n t') (λ vs r. Some (v ∷ vs, r)))
      else Some ([], t)

  unfoldable pub many_reads : List Token → Read (List A)
  many_reads t = many_at (length t) t

-- Relations and readers of the parts of productions.
use Rattle.std.specs.Prelude.{◌≡◌, Bool, true, false, if◌then◌else◌, List, [], ◌∷◌, ◌++◌, Option, Some, None, ◌⊎◌}
use Rattle.wat_lexer.specs.Token.{Token}
use Rattle.wat_tokens.specs.Production.{Read, bind, Production}

-- ---- one token that has a value

abbrev pub with_rest : {A : Type 0} → Option A → List Token → Read A
with_rest (Some v) r = Some (v, r)
with_rest None r = None

module _ {A : Type 0} (value_of : Token → Option A) where
  abbrev pub one_spells : A → List Token → List Token → Type 0
  one_spells v c r = (x : Token) × (c ≡ x ∷ []) × (value_of x ≡ Some v)

  abbrev pub one_reads : List Token → Read A
  one_reads [] = None
  one_reads (x ∷ r) = with_rest (value_of x) r

-- ---- one part, and then another

module _ {A B : Type 0} (g : Production A) (h : Production B) where
  abbrev pub seq_spells : A × B → List Token → List Token → Type 0
  seq_spells v c r =
      (d : List Token) × (e : List Token) × (c ≡ d ++ e) × g.spells v.0 d (e ++ r)
      × h.spells v.1 e r

  abbrev pub seq_reads : List Token → Read (A × B)
  seq_reads t = bind (g.reads t) (λ a t'. bind (h.reads t') (λ b r. Some ((a, b), r)))

-- ---- one part if a test of the next tokens holds, else another part

module _ {A : Type 0} (test : List Token → Bool) (g h : Production A) where
  abbrev pub where_spells : A → List Token → List Token → Type 0
  where_spells v c r =
      ((test (c ++ r) ≡ true) × g.spells v c r) ⊎ ((test (c ++ r) ≡ false) × h.spells v c r)

  abbrev pub where_reads : List Token → Read A
  where_reads t = if test t then g.reads t else h.reads t

-- ---- a value made of the parts, if the parts meet a condition

module _ {A B : Type 0} (ok : A → Bool) (f : A → B) (g : Production A) where
  abbrev pub of_spells : B → List Token → List Token → Type 0
  of_spells v c r = (a : A) × g.spells a c r × (ok a ≡ true) × (f a ≡ v)

  abbrev pub kept : A → List Token → Read B
  kept a r = if ok a then Some (f a, r) else None

  abbrev pub of_reads : List Token → Read B
  of_reads t = bind (g.reads t) kept

-- ---- an optional part: present if the next tokens begin it

module _ {A : Type 0} (begins : List Token → Bool) (g : Production A) where
  abbrev pub opt_spells : Option A → List Token → List Token → Type 0
  opt_spells (Some v) c r = (begins (c ++ r) ≡ true) × g.spells v c r
  opt_spells None c r = (c ≡ []) × (begins r ≡ false)

  abbrev pub opt_reads : List Token → Read (Option A)
  opt_reads t = if begins t then bind (g.reads t) (λ v r. Some (Some v, r)) else Some (None, t)

-- A loop that adds each part to a state, if the part fits.
use Rattle.std.specs.Prelude.{List, [], ◌∷◌, Option, Some, None}
use Rattle.wat_tokens.specs.Production.{Read, bind}
use Rattle.wat_tokens.specs.PartSpells.{with_rest}

abbrev pub option_then : {A B : Type 0} → Option A → (A → Option B) → Option B
option_then (Some x) f = f x
option_then None f = None

module _ {A S : Type 0} (add : S → A → Option S) where
  abbrev pub add_all : List A → S → Option S
  add_all [] s = Some s
  add_all (v ∷ vs) s = option_then (add s v) (add_all vs)

  -- one part, added
  abbrev pub add_read : S → Read A → Read S
  add_read s read = bind read (λ v r. with_rest (add s v) r)

  -- all parts that are still to be read, added
  abbrev pub add_rest : S → Read (List A) → Read S
  add_rest s read = bind read (λ vs r. with_rest (add_all vs s) r)

-- Productions: which tokens spell a value, and how a reader reads them.
use Rattle.std.specs.Prelude.{◌≡◌, ℕ, ◌≤◌, List, ◌++◌, length, Option, Some, None}
use Rattle.wat_lexer.specs.Token.{Token}
use Rattle.wat_tokens.specs.Asks.{Asks, Alike}
use Rattle.wat_tokens.specs.Parens.{AreBalanced}

-- a value and the tokens after it
abbrev pub Read : Type 0 → Type 0
Read A = Option (A × List Token)

-- reads on after a value, with the value and the tokens after it
abbrev pub bind : {A B : Type 0} → Read A → (A → List Token → Read B) → Read B
bind (Some x) f = f x.0 x.1
bind None f = None

-- t is the tokens that spell a value, and then the rest
abbrev pub Front : {A : Type 0} → (A → List Token → List Token → Type 0) → List Token
    → A × List Token
    → Type 0
Front spells t x = (c : List Token) × (t ≡ c ++ x.1) × spells x.0 c x.1

-- spells v c r: before the rest r the tokens c spell v.
-- reads t: the value that a prefix of t spells, and the tokens after it.
-- sound, complete: the reader and the relation agree.
-- takes: a value takes at least `least` tokens. balanced: its parentheses are balanced.
-- asks: what the production asks of the rest. moves: tokens that spell v before one rest spell v
-- before each alike rest.
pub record Production (A : Type 0) : Type 1 where
  pub spells : A → List Token → List Token → Type 0
  pub reads : List Token → Read A
  pub least : ℕ
  pub sound : (t : List Token) (x : A × List Token) → reads t ≡ Some x → Front spells t x
  pub complete : (v : A) (c r : List Token) → spells v c r → reads (c ++ r) ≡ Some (v, r)
  pub takes : (v : A) (c r : List Token) → spells v c r → least ≤ length c
  pub balanced : (v : A) (c r : List Token) → spells v c r → AreBalanced c
  pub asks : Asks
  pub moves : (v : A) (c r s : List Token) → Alike asks r s → spells v c r → spells v c s

abbrev pub some_of : {A : Type 0} → A × List Token → Read A
some_of x = Some x

abbrev pub none_of : {A : Type 0} → Read A
none_of = None

abbrev pub option_of : {A : Type 0} → A → Option A
option_of x = Some x

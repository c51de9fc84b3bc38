-- Laws: productions: which tokens spell a value, and how a reader reads them.
pub use Rattle.wat_lexer.specs.Laws.Cases.{by_test}
use Rattle.std.proofs.Common.{◌≡◌, ◌≤◌, ◌<◌, List, length, Option, Some, None, refl, ap, arith, length-append}
use Rattle.wat_lexer.specs.Token.{Token}
use Rattle.wat_tokens.specs.Production.{Read, bind, some_of, none_of, Production}

pub bind_some : {A B : Type 0} (x : Read A) (f : A → List Token → Read B) (y : B × List Token)
    → bind x f ≡ Some y → (a : A × List Token) × (x ≡ Some a) × (f a.0 a.1 ≡ Some y)
bind_some (Some x) f y e = (x, refl, e)
bind_some None f y e = absurd cc

pub some_is : {A : Type 0} (x y : A × List Token) → some_of x ≡ some_of y → x ≡ y
some_is x y e = cc

pub none_is_not : {A P : Type 0} (y : A × List Token) → none_of {A = A} ≡ some_of y → P
none_is_not y e = absurd cc

pub by_read : {A P : Type 0} (x : Read A) → ((y : A × List Token) → x ≡ Some y → P) → (x ≡ None → P)
    → P
by_read (Some y) f g = f y refl
by_read None f g = g refl

-- if every value takes a token, fewer tokens are left
pub less_left : {A : Type 0} (g : Production A) (t : List Token) (v : A) (r : List Token)
    → 1 ≤ g.least
    → g.reads t ≡ Some (v, r) → length r < length t
less_left g t v r consumes e =
    let f = g.sound t (v, r) e in
    omega (arith, ap length f.1, length-append f.0 r, g.takes v f.0 r f.2)

pub by_option : {A P : Type 0} (x : Option A) → ((y : A) → x ≡ Some y → P) → (x ≡ None → P) → P
by_option (Some y) f g = f y refl
by_option None f g = g refl

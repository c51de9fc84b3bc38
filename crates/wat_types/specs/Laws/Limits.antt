-- Laws: the exponent of a page size.
use Rattle.std.specs.Prelude.{◌≡◌, ℕ, true, false, List, refl}
use Rattle.wat_tokens.specs.Laws.Prelude.{Token, by_option}
use Rattle.wat_types.specs.Exponent.{IsTwoTo, exponent}
use Rattle.wat_types.specs.Laws.Exponent.{exponent_sound, exponent_complete}
use Rattle.wat_types.specs.PageSize.{has_exponent, exponent_or_0, ExponentSpells, exponent_tested}

is_two_to : (k n : ℕ) → has_exponent n ≡ true → exponent_or_0 n ≡ k → IsTwoTo k n
is_two_to k n s e =
    by_option (exponent n) (λ j f. exponent_sound n k (let g : j ≡ k = rw f at e in rw g at f))
    (λ f. absurd (let g : false ≡ true = rw f at s in cc))

pub exponent_to : (k : ℕ) (c r : List Token) → exponent_tested.spells k c r → ExponentSpells k c r
exponent_to k c r s = (s.0, s.1, is_two_to k s.0 s.2 s.3)

pub exponent_from : (k : ℕ) (c r : List Token) → ExponentSpells k c r → exponent_tested.spells k c r
exponent_from k c r s = let e = exponent_complete s.0 k s.2 in (s.0, s.1, rw e refl, rw e refl)

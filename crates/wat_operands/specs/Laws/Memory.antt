-- Laws: which tokens spell an alignment.
use Rattle.std.specs.Prelude.{ℕ, List, refl}
use Rattle.wat_tokens.specs.Token.{Token}
use Rattle.wat_operands.specs.Laws.Power.{power_of_two-holds, power_of_two-tested}
use Rattle.wat_operands.specs.Align.{AlignSpells, align_tested}

pub align_to : (n : ℕ) (c r : List Token) → align_tested.spells n c r → AlignSpells n c r
align_to n c r s = rw (← s.3) (s.1, power_of_two-holds s.0 s.2)

pub align_from : (n : ℕ) (c r : List Token) → AlignSpells n c r → align_tested.spells n c r
align_from n c r s = (n, s.0, power_of_two-tested n s.1, refl)

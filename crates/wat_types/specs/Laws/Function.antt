-- Laws: function types without names.
use Rattle.std.specs.Prelude.{false, List}
use Rattle.wat_tokens.specs.Token.{Token}
use Rattle.wat_types.specs.Group.{FunctionTypeModel}
use Rattle.wat_types.specs.Laws.Unlabelled.{groups_allow, groups_forbid}
use Rattle.wat_types.specs.FunctionSpells.{func_groups, UnnamedSpells}
use Rattle.wat_types.specs.Function.{function_groups}

pub unnamed_to : (f : FunctionTypeModel) (c r : List Token) → (function_groups false).spells f c r
    → UnnamedSpells f c r
unfolding function_groups func_groups
unnamed_to f c r s =
    let p = groups_allow s.0 c r s.1 in
    ((s.0, p.0, s.2, s.3, s.4), rw (s.3) p.1)

pub unnamed_from : (f : FunctionTypeModel) (c r : List Token) → UnnamedSpells f c r
    → (function_groups false).spells f c r
unfolding function_groups func_groups
unnamed_from f c r s =
    let p = s.0 in (p.0, groups_forbid p.0 c r p.1 (rw p.3 at s.1), p.2, p.3, p.4)

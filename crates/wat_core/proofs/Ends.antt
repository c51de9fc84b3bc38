-- A module reaches to the end of its group.
use Rattle.std.proofs.Common.{◌≡◌, true, false, List, [], ◌∷◌, Some, refl, inl, inr}
use Rattle.wat_core.specs.Prelude.{string, ends, more, Token, RParen, ModuleModel, ModuleKindModel, fields, pieces, module_kind, module_, field_group}
use Rattle.wat_tokens.specs.Laws.State.{annotated_is}
use Rattle.wat_tokens.specs.Laws.Many.{many_ends}

ends_of : (r : List Token) → more r ≡ false → ends r ≡ true
ends_of [] e = refl
ends_of (RParen ∷ r) e = refl
ends_of (_ ∷ r) e = absurd cc

kind_ends : (v : ModuleKindModel) (c r : List Token) → module_kind.spells v c r → ends r ≡ true
unfolding module_kind fields pieces
kind_ends v c r (inl s) = let w = s.1.1 in ends_of r (many_ends more string w.0.1 w.1.1 r w.1.4)
kind_ends v c r (inr s) = ends_of r (many_ends more field_group s.1.0 c r s.1.1)

-- a module is spelled only before an end
pub spelled_ends : (v : ModuleModel) (c r : List Token) → module_.spells v c r → ends r ≡ true
unfolding module_
spelled_ends v c r s = kind_ends _ _ r s.1.4.1.4

-- an end is left after a module is read
pub module_ends : (t : List Token) (v : ModuleModel) (r : List Token) → module_.reads t ≡ Some (v, r) → ends r ≡ true
module_ends t v r e =
    let y = module_.sound t (v, r) e in
    spelled_ends v y.0 r y.2

-- facts about a module that was read with the five names known
pub ruleset module_steps = (annotated_is, module_ends)

-- The view of a block type as a type with names.
use Rattle.std.proofs.Common.{◌≡◌, Option, Some, None, option_map, refl, ap}
use Rattle.wat_operands.specs.Prelude.{index_view, option_view, FunctionTypeModel, function_view, use_of, use_view, TypeUse, signature_view}
use Rattle.wat_types.specs.Function.{unnamed_view}
use Rattle.wat_types.specs.Use.{with_names}
use Rattle.wat_types.specs.declared.function.FunctionTypeNoNames.{FunctionTypeNoNames}

-- ---- the type of a block or of a call

inline_with_names : (o : Option FunctionTypeNoNames) → option_view function_view (option_map (λ t. t.0) o) ≡ option_view unnamed_view o
inline_with_names (Some t) = refl
inline_with_names None = refl

-- a type use without names has the same view as its conversion to a type use with names
pub view_with_names : (u : TypeUse FunctionTypeNoNames) → signature_view (with_names u) ≡ use_view unnamed_view u
view_with_names u = ap (λ (o : Option FunctionTypeModel). use_of (option_view index_view u.index) o) (inline_with_names u.inline)

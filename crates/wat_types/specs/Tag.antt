-- Tag types.
use Rattle.wat_tokens.specs.Production.{Production}
use Rattle.wat_types.specs.Function.{function_view, function_type}
use Rattle.wat_types.specs.Group.{FunctionTypeModel, at_func}
use Rattle.wat_types.specs.Use.{TypeUseModel, use_view, type_use, SameFunction, SameUse}
use Rattle.wat_types.specs.declared.tag.TagType.{TagType}
use Rattle.wat_types.specs.declared.tag.TagType.TheVariants as code

-- the type use in a tag type
abbrev pub tag_type_view : TagType → TypeUseModel FunctionTypeModel
tag_type_view (code.Exception u) = use_view function_view u

-- a type use of a FunctionType
abbrev pub tag_type : Production (TypeUseModel FunctionTypeModel)
tag_type = type_use at_func function_type

-- the same variant, with the same index and the same inline type
abbrev pub SameTag : TagType → TagType → Type 0
SameTag (code.Exception u) (code.Exception v) = SameUse SameFunction u v

-- Structure types.
use Rattle.std.specs.Prelude.{List}
use Rattle.wat_tokens.specs.Prelude.{Production, joined, at_more}
use Rattle.wat_types.specs.Struct.{StructFieldModel, member_group}
use Rattle.wat_types.specs.Laws.Struct.{member_group_consumes}

-- groups up to the end of the enclosing group: the fields of all groups, in order
unfoldable pub struct_type : Production (List StructFieldModel)
struct_type = joined at_more member_group member_group_consumes

-- Groups of locals.
use Rattle.std.specs.Prelude.{List}
use Rattle.wat_links.specs.Prelude.{Production, joined}
use Rattle.wat_fields.specs.Local.{LocalModel, local_group, at_local}
use Rattle.wat_fields.specs.Laws.Local.{local_group_consumes}

-- ( LocalParser )*, as long as a group has to follow; the locals of all groups, in order
unfoldable pub locals : Production (List LocalModel)
locals = joined at_local local_group local_group_consumes

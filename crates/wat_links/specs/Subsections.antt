-- Subsections of the `dylink.0` section.
use Rattle.std.specs.Prelude.{List}
use Rattle.wat_types.specs.Prelude.{Production, many, at_more}
use Rattle.wat_links.specs.Dylink.{Dylink0SubsectionModel, subsection}
use Rattle.wat_links.specs.Laws.Subsections.{subsection_consumes}

-- subsections, to the end of the group
unfoldable pub subsections : Production (List Dylink0SubsectionModel)
subsections = many at_more subsection subsection_consumes

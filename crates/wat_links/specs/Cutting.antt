-- The grammar of a `dylink.0` section: its entries, cut into subsections.
use Rattle.std.specs.Prelude.{List, codes}
use Rattle.wat_types.specs.Prelude.{Production, restated, annotation}
use Rattle.wat_links.specs.Dylink.{Dylink0SubsectionModel}
use Rattle.wat_links.specs.Subsections.{subsections}
use Rattle.wat_links.specs.CutForm.{CutSpells}
use Rattle.wat_links.specs.Laws.Cutting.{cut_to, cut_from}

-- entries to the end of the group, cut into subsections
unfoldable pub cut_subsections : Production (List Dylink0SubsectionModel)
cut_subsections = restated subsections CutSpells cut_to cut_from

-- @dylink.0 entries
unfoldable pub dylink : Production (List Dylink0SubsectionModel)
dylink = annotation (codes "dylink.0") cut_subsections

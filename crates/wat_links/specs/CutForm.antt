-- Which tokens spell the subsections of a `dylink.0` section: its entries, cut into lists.
use Rattle.std.specs.Prelude.{List, flat_map}
use Rattle.wat_types.specs.Prelude.{Token, Production, many, at_more}
use Rattle.wat_links.specs.Dylink.{Dylink0SubsectionModel}
use Rattle.wat_links.specs.Entries.{Dylink0Entry, entry, entries_in, AreCut}
use Rattle.wat_links.specs.Laws.Entries.{entry_consumes}

-- entries, to the end of the group
unfoldable pub entries : Production (List Dylink0Entry)
entries = many at_more entry entry_consumes

-- the tokens spell the entries of all subsections in order, and the subsections are cut: AreCut
-- holds
abbrev pub CutSpells : List Dylink0SubsectionModel → List Token → List Token → Type 0
CutSpells ss c r = entries.spells (flat_map entries_in ss) c r × AreCut ss

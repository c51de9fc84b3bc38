use Rattle.std.specs.Prelude.{◌≡◌, take}
use Rattle.wat_links.specs.Producers.{names_view, field_entries, entries_view}
use Rattle.wat_links.proofs.producers.field_entries.Given as goal

abbrev pub invariant-entries : goal.invariant-entries
invariant-entries l = names_view l.found.items ≡ field_entries l.field (entries_view (take l.entry-index l.entries))

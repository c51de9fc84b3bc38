-- Laws: one entry of the producers section.
use Rattle.std.proofs.Common.{◌≤◌, lit≤}
use Rattle.wat_links.specs.ProducerEntry.{field_word, producer_entry}

pub producer_entry_consumes : 1 ≤ producer_entry.least
unfolding producer_entry field_word
producer_entry_consumes = lit≤ tt

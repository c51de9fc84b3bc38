-- If the section has an entry, it has a field.
use Rattle.std.specs.Prelude.{◌≡◌, false, List, [], ◌∷◌, ◌++◌, Some, None, refl}
use Rattle.wat_links.specs.Prelude.{filled_behind, Read, bind, after_front, NotHeapless, no_items, fields_of, Versioned, ProducerEntryModel, producer_entry_consumes}
use Rattle.wat_tokens.specs.Laws.Filled.{filled_before}
use Rattle.wat_links.specs.Producers.{field_with_entries}
use Rattle.wat_links.specs.declared.producers.Field.{Field}
use Rattle.wat_links.specs.declared.producers.Field.TheVariants.{Language, Sdk, ProcessedBy}

first_entry : (f : Field) (n : Versioned) (es : List ProducerEntryModel) → no_items (fields_of ((f, n) ∷ es)) ≡ false
first_entry Language n es = filled_before (field_with_entries Language ((Language, n) ∷ es) ++ field_with_entries Sdk es) (field_with_entries ProcessedBy es) refl
first_entry Sdk n es = filled_before (field_with_entries Language es ++ field_with_entries Sdk ((Sdk, n) ∷ es)) (field_with_entries ProcessedBy es) (filled_behind (field_with_entries Language es) (field_with_entries Sdk ((Sdk, n) ∷ es)) refl)
first_entry ProcessedBy n es = filled_behind (field_with_entries Language es ++ field_with_entries Sdk es) (field_with_entries ProcessedBy ((ProcessedBy, n) ∷ es)) refl

pub fields_not_heapless : (es : List ProducerEntryModel) → no_items es ≡ false → no_items (fields_of es) ≡ false
fields_not_heapless [] k = absurd cc
fields_not_heapless (e ∷ es) k = first_entry e.0 e.1 es

pub entries_not_heapless : (x : Read (List ProducerEntryModel)) → NotHeapless no_items (after_front [] x) → NotHeapless no_items (bind x (λ es r. Some (fields_of es, r)))
entries_not_heapless (Some x) k = fields_not_heapless x.0 k
entries_not_heapless None k = tt

pub ruleset entry_steps = (producer_entry_consumes, fields_not_heapless, entries_not_heapless)

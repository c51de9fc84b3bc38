-- The `producers` section.
use Rattle.std.specs.Prelude.{ℕ, Bool, true, false, List, [], ◌∷◌, ◌++◌, codes, map, filter}
use Rattle.wat_types.specs.Prelude.{Bor, Production, made, annotation, many, at_more}
use Rattle.wat_links.specs.declared.producers.Field.{Field}
use Rattle.wat_links.specs.declared.producers.Field.TheVariants.{Language, Sdk, ProcessedBy}
use Rattle.wat_links.specs.declared.producers.ProducerEntry.{ProducerEntry}
use Rattle.wat_links.specs.declared.producers.Producers.{Producers}
use Rattle.wat_links.specs.ProducerEntry.{ProducerEntryModel, producer_entry, Versioned}
use Rattle.wat_links.specs.Laws.Producers.{producer_entry_consumes}

-- ---- entries

abbrev pub word_of : Field → List ℕ
word_of Language = codes "language"
word_of Sdk = codes "sdk"
word_of ProcessedBy = codes "processed-by"

abbrev pub same_field : Field → Field → Bool
same_field Language Language = true
same_field Sdk Sdk = true
same_field ProcessedBy ProcessedBy = true
same_field _ _ = false

abbrev pub entry_view : ProducerEntry → ProducerEntryModel
entry_view e = (e.field, (e.name.now, e.version.now))

-- entries, to the end of the group
unfoldable pub producer_entries : Production (List ProducerEntryModel)
producer_entries = many at_more producer_entry producer_entry_consumes

-- ---- fields

-- the entries of the field, in order
abbrev pub field_entries : Field → List ProducerEntryModel → List Versioned
field_entries f es = map (λ e. e.1) (filter (λ e. same_field e.0 f) es)

-- a field with its entries, if the field has entries
abbrev pub with_entries : List ℕ → List Versioned → List (List ℕ × List Versioned)
with_entries w [] = []
with_entries w (x ∷ xs) = (w, x ∷ xs) ∷ []

abbrev pub field_with_entries : Field → List ProducerEntryModel → List (List ℕ × List Versioned)
field_with_entries f es = with_entries (word_of f) (field_entries f es)

-- the three fields in this order, each with its entries; fields without entries are left out
abbrev pub fields_of : List ProducerEntryModel → List (List ℕ × List Versioned)
fields_of es =
    (field_with_entries Language es ++ field_with_entries Sdk es)
    ++ field_with_entries ProcessedBy es

-- the view of names with versions
abbrev pub names_view : List (Bor (List ℕ) × Bor (List ℕ)) → List Versioned
names_view xs = map (λ x. (x.0.now, x.1.now)) xs

abbrev pub entries_view : List ProducerEntry → List ProducerEntryModel
entries_view es = map entry_view es

abbrev pub producers_view : Producers → List (List ℕ × List Versioned)
producers_view p = map (λ f. (f.0.now, names_view f.1.items)) p.fields.items

-- @producers entries
unfoldable pub producers : Production (List (List ℕ × List Versioned))
producers = annotation (codes "producers") (made fields_of producer_entries)

-- One entry of the `producers` section.
use Rattle.std.specs.Prelude.{ℕ, List, [], ◌∷◌, codes, refl}
use Rattle.wat_types.specs.Prelude.{word_in, Production, one, seq, paren, text}
use Rattle.wat_links.specs.declared.producers.Field.{Field}
use Rattle.wat_links.specs.declared.producers.Field.TheVariants.{Language, Sdk, ProcessedBy}

-- the fields, by their keywords
abbrev pub field_words : List (List ℕ × Field)
field_words =
    (codes "language", Language) ∷ (codes "sdk", Sdk) ∷ (codes "processed-by", ProcessedBy) ∷ []

-- a name and a version
abbrev pub Versioned : Type 0
Versioned = List ℕ × List ℕ

-- the field of an entry, its name and its version
abbrev pub ProducerEntryModel : Type 0
ProducerEntryModel = Field × Versioned

-- the keyword of a field
unfoldable pub field_word : Production Field
field_word = one (word_in field_words) (refl, refl)

-- ( `language` | `sdk` | `processed-by` , name version )
unfoldable pub producer_entry : Production ProducerEntryModel
producer_entry = paren (seq field_word (seq text text))

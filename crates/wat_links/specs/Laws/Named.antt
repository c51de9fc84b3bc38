-- Laws: each value is what its keyword names.
use Rattle.std.specs.Prelude.{◌≡◌, Some, refl}
use Rattle.wat_tokens.specs.Tests.{look_up}
use Rattle.wat_links.specs.CustomPlace.{anchor_words, section_word}
use Rattle.wat_links.specs.Export.{export_kind_word, kind_words}
use Rattle.wat_links.specs.ProducerEntry.{field_words}
use Rattle.wat_links.specs.Producers.{word_of}
use Rattle.wat_links.specs.declared.custom_place.CustomPlaceAnchor.{CustomPlaceAnchor}
use Rattle.wat_links.specs.declared.export.ExportKind.{ExportKind}
use Rattle.wat_links.specs.declared.producers.Field.{Field}
use Rattle.wat_links.specs.declared.custom_place.CustomPlaceAnchor.TheVariants as anchor
use Rattle.wat_links.specs.declared.export.ExportKind.TheVariants as kind
use Rattle.wat_links.specs.declared.producers.Field.TheVariants as field

pub kind_is_named : (k : ExportKind) → look_up kind_words (export_kind_word k) ≡ Some k
kind_is_named kind.Func = refl
kind_is_named _ = refl

pub section_is_named : (a : CustomPlaceAnchor) → look_up anchor_words (section_word a) ≡ Some a
section_is_named anchor.Import = refl
section_is_named _ = refl

pub field_is_named : (f : Field) → look_up field_words (word_of f) ≡ Some f
field_is_named field.Language = refl
field_is_named _ = refl

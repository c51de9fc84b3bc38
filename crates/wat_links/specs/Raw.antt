-- Custom sections of any name, with their bytes.
use Rattle.std.specs.Prelude.{ℕ, Bool, List, codes, map, unwrap_or}
use Rattle.std.proofs.Common.{lit≤}
use Rattle.wat_types.specs.Prelude.{Production, seq, made, opt, annotation, paren, many, string, text, no_items, at_lparen, at_more}
use Rattle.wat_links.specs.CustomPlace.{custom_place}
use Rattle.wat_links.specs.declared.custom_place.CustomPlace.{CustomPlace}
use Rattle.wat_links.specs.declared.custom_place.CustomPlace.TheVariants.{AfterLast}
use Rattle.wat_links.specs.declared.raw.RawCustomSection.{RawCustomSection}

-- a raw custom section, without its place in the text
pub record RawCustomSectionModel : Type 0 where
  pub name : List ℕ
  pub place : CustomPlace
  pub «data» : List (List ℕ)

abbrev pub raw_of : List ℕ → CustomPlace → List (List ℕ) → RawCustomSectionModel
raw_of n p d = record { name = n; place = p; «data» = d }

abbrev pub raw_view : RawCustomSection → RawCustomSectionModel
raw_view r = raw_of r.name.now r.place (map (λ s. s.now) r.data.items)

-- has no string of bytes
abbrev pub heapless_raw : RawCustomSectionModel → Bool
heapless_raw r = no_items r.data

-- ( place )?; without a place, after the last section
unfoldable pub raw_place : Production CustomPlace
raw_place = made (λ p. unwrap_or p AfterLast) (opt at_lparen (paren custom_place))

-- bytes*, to the end of the group
unfoldable pub raw_data : Production (List (List ℕ))
raw_data = many at_more string (lit≤ tt)

-- @custom name ( place )? bytes*
unfoldable pub raw_custom : Production RawCustomSectionModel
raw_custom =
    annotation (codes "custom") (made (λ v. raw_of v.0 v.1.0 v.1.1)
    (seq text (seq raw_place raw_data)))

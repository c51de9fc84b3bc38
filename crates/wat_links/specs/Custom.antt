-- Custom sections.
use Rattle.std.specs.Prelude.{ℕ, Bool, List, codes}
use Rattle.wat_types.specs.Prelude.{Token, Production, made, where_else, no_items, Test, run, at_kind}
use Rattle.wat_tokens.specs.Kind.{an_annotation}
use Rattle.wat_links.specs.Raw.{RawCustomSectionModel, raw_view, heapless_raw, raw_custom}
use Rattle.wat_links.specs.Producers.{producers_view, producers}
use Rattle.wat_links.specs.ProducerEntry.{Versioned}
use Rattle.wat_links.specs.Dylink.{Dylink0SubsectionModel, dylink_view}
use Rattle.wat_links.specs.Cutting.{dylink}
use Rattle.wat_links.specs.declared.custom_place.CustomPlace.{CustomPlace}
use Rattle.wat_links.specs.declared.custom_place.CustomPlace.TheVariants.{BeforeFirst, AfterLast}
use Rattle.wat_links.specs.declared.custom.Custom.{Custom}
use Rattle.wat_links.specs.declared.custom.Custom.TheVariants as code

-- the bytes of a section of any name, the fields of a `producers` section, or the subsections of a
-- `dylink.0` section
pub data CustomModel : Type 0 where
  raw : RawCustomSectionModel → CustomModel
  produced : List (List ℕ × List Versioned) → CustomModel
  linked : List Dylink0SubsectionModel → CustomModel

abbrev pub custom_view : Custom → CustomModel
custom_view (code.Raw r) = raw (raw_view r)
custom_view (code.Producers p) = produced (producers_view p)
custom_view (code.Dylink0 d) = linked (dylink_view d)

-- has no bytes, no field and no subsection
abbrev pub heapless_custom : CustomModel → Bool
heapless_custom (raw r) = heapless_raw r
heapless_custom (produced fs) = no_items fs
heapless_custom (linked ss) = no_items ss

-- the place of the section
abbrev pub place_of : Custom → CustomPlace
place_of (code.Raw r) = r.place
place_of (code.Producers p) = AfterLast
place_of (code.Dylink0 d) = BeforeFirst

-- the name of the section
abbrev pub custom_name : Custom → List ℕ
custom_name (code.Raw r) = r.name.now
custom_name (code.Producers p) = codes "producers"
custom_name (code.Dylink0 d) = codes "dylink.0"

-- the next token is the annotation with the given name
abbrev pub at_annotated : List ℕ → Test
at_annotated name = at_kind (an_annotation name)

abbrev pub begins_annotated : List ℕ → List Token → Bool
begins_annotated name t = run (at_annotated name) t

-- @producers .. | @dylink.0 .. | @custom ..
unfoldable pub custom : Production CustomModel
custom =
    where_else (at_annotated (codes "producers")) (made produced producers)
    (where_else (at_annotated (codes "dylink.0")) (made linked dylink)
    (made raw raw_custom))

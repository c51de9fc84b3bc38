-- Places of custom sections.
use Rattle.std.specs.Prelude.{ℕ, List, [], ◌∷◌, codes, refl}
use Rattle.wat_types.specs.Prelude.{word_in, Production, one, word, made, where_else, after_word, at_word}
use Rattle.wat_links.specs.declared.custom_place.CustomPlace.{CustomPlace}
use Rattle.wat_links.specs.declared.custom_place.CustomPlace.TheVariants.{BeforeFirst, Before, After, AfterLast}
use Rattle.wat_links.specs.declared.custom_place.CustomPlaceAnchor.{CustomPlaceAnchor}
use Rattle.wat_links.specs.declared.custom_place.CustomPlaceAnchor.TheVariants as anchor

abbrev pub section_word : CustomPlaceAnchor → List ℕ
section_word anchor.«Type» = codes "type"
section_word anchor.Import = codes "import"
section_word anchor.Func = codes "func"
section_word anchor.Table = codes "table"
section_word anchor.Memory = codes "memory"
section_word anchor.Global = codes "global"
section_word anchor.Export = codes "export"
section_word anchor.Start = codes "start"
section_word anchor.Elem = codes "elem"
section_word anchor.Code = codes "code"
section_word anchor.Data = codes "data"
section_word anchor.Tag = codes "tag"

-- the keywords of the known sections
abbrev pub anchor_words : List (List ℕ × CustomPlaceAnchor)
anchor_words =
    (codes "type", anchor.«Type») ∷ (codes "import", anchor.Import) ∷ (codes "func", anchor.Func)
    ∷ (codes "table", anchor.Table) ∷ (codes "memory", anchor.Memory)
    ∷ (codes "global", anchor.Global) ∷ (codes "export", anchor.Export)
    ∷ (codes "start", anchor.Start) ∷ (codes "elem", anchor.Elem) ∷ (codes "code", anchor.Code)
    ∷ (codes "data", anchor.Data) ∷ (codes "tag", anchor.Tag) ∷ []

-- one of the keywords of the known sections
unfoldable pub section : Production CustomPlaceAnchor
section = one (word_in anchor_words) (refl, refl)

-- `before first` | `before` section
unfoldable pub before : Production CustomPlace
before = after_word (codes "before")
    (where_else (at_word (codes "first")) (made (λ _. BeforeFirst) (word (codes "first")))
    (made Before section))

-- `after last` | `after` section
unfoldable pub after : Production CustomPlace
after = after_word (codes "after")
    (where_else (at_word (codes "last")) (made (λ _. AfterLast) (word (codes "last")))
    (made After section))

-- `before first` | `before` section | `after last` | `after` section
unfoldable pub custom_place : Production CustomPlace
custom_place = where_else (at_word (codes "before")) before after

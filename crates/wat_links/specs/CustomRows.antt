-- Sample texts as tokens, and the custom sections that they spell.
use Rattle.std.specs.Prelude.{List, [], ◌∷◌, ◌++◌, codes}
use Rattle.wat_links.specs.Prelude.{Token, Keyword, Integer, String, Annotation, in_parens, Spelled, linked, custom, mem_info, needed, export_info, custom_place}
use Rattle.wat_links.specs.declared.custom_place.CustomPlace.TheVariants.{After}
use Rattle.wat_links.specs.declared.custom_place.CustomPlaceAnchor.TheVariants as anchor

-- `after code`
abbrev pub CustomPlaces : Type 0
CustomPlaces = Spelled custom_place (Keyword (codes "after") ∷ Keyword (codes "code") ∷ [])
    (After anchor.Code)

-- `(`, a word, tokens, `)`
abbrev entry_text : List Token → List Token → List Token
entry_text w ts = in_parens (w ++ ts)

abbrev export_word : List Token
export_word = Keyword (codes "export-info") ∷ []

-- `@dylink.0 (export-info "a" tls) (export-info "b" 3) (needed "x") (export-info "c")`: adjacent
-- exports share a subsection
abbrev pub Exports : Type 0
Exports =
    Spelled custom
    (Annotation (codes "dylink.0")
    ∷ (entry_text export_word (String (codes "a") ∷ Keyword (codes "tls") ∷ [])
    ++ (entry_text export_word (String (codes "b") ∷ Integer (codes "3") ∷ [])
    ++ (entry_text (Keyword (codes "needed") ∷ []) (String (codes "x") ∷ [])
    ++ entry_text export_word (String (codes "c") ∷ [])))))
    (linked (export_info ((codes "a", 256) ∷ (codes "b", 3) ∷ []) ∷ needed (codes "x" ∷ [])
    ∷ export_info ((codes "c", 0) ∷ []) ∷ []))

-- `@dylink.0 (mem-info (table 1 2))`: missing numbers are 0
abbrev pub Sizes : Type 0
Sizes =
    Spelled custom (Annotation (codes "dylink.0")
    ∷ in_parens (Keyword (codes "mem-info")
    ∷ in_parens (Keyword (codes "table") ∷ Integer (codes "1") ∷ Integer (codes "2") ∷ [])))
    (linked (mem_info 0 0 1 2 ∷ []))

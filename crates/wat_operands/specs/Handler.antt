-- One handler of a resume table.
use Rattle.std.specs.Prelude.{codes, Option, Some, None}
use Rattle.wat_types.specs.Prelude.{at_word, Production, seq, made, where_else, word, group, IndexModel, index}

-- a handler, without positions: its tag, and its label if it has a label
pub data HandleModel : Type 0 where
  on_label : IndexModel → IndexModel → HandleModel
  on_switch : IndexModel → HandleModel

-- `switch` (no label), or the index of a label
unfoldable pub aim : Production (Option IndexModel)
aim = where_else (at_word (codes "switch")) (made (λ _. None) (word (codes "switch")))
    (made Some index)

abbrev pub handler_to : IndexModel → Option IndexModel → HandleModel
handler_to tag (Some label) = on_label tag label
handler_to tag None = on_switch tag

-- ( on idx switch ) | ( on idx idx )
unfoldable pub handler : Production HandleModel
handler = group (codes "on") (made (λ v. handler_to v.0 v.1) (seq index aim))

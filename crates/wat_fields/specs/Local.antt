-- Locals of functions.
use Rattle.std.specs.Prelude.{Bool, List, [], ◌∷◌, codes, map}
use Rattle.wat_links.specs.Prelude.{Token, Production, seq, made, where_else, after_word, many, paren, at_more, Test, run, second_word, Label, no_label, label_view, label, ValTypeModel, val_view, val_type, val_type_consumes}
use Rattle.wat_types.specs.Label.{at_label}
use Rattle.wat_fields.specs.declared.local.Local.{Local}
use Rattle.wat_fields.specs.declared.local.LocalParser.{LocalParser}

-- ---- views

-- a local: its identifier and name, and its type
pub record LocalModel : Type 0 where
  pub label : Label
  pub ty : ValTypeModel

abbrev pub local_of : Label → ValTypeModel → LocalModel
local_of l t = record { label = l; ty = t }

abbrev pub local_view : Local → LocalModel
local_view l = local_of (label_view l.id l.name) (val_view l.ty)

abbrev pub locals_view : List Local → List LocalModel
locals_view ls = map local_view ls

abbrev pub local_parser_view : LocalParser → List LocalModel
local_parser_view p = locals_view p.locals.items

-- ---- the grammar

-- id? name? ValType, as a list of one local
unfoldable pub labelled_local : Production (List LocalModel)
labelled_local = made (λ v. local_of v.0 v.1 ∷ []) (seq label val_type)

-- ValType
abbrev pub plain_local : Production LocalModel
plain_local = made (local_of no_label) val_type

-- ValType*, to the end
unfoldable pub plain_locals : Production (List LocalModel)
plain_locals = many at_more plain_local val_type_consumes

-- id? name? ValType if an id or a name is next; otherwise ValType*, to the end
unfoldable pub listed_locals : Production (List LocalModel)
listed_locals = where_else at_label labelled_local plain_locals

-- `local id? name? ValType`, with an id or a name; or `local ValType*`, to the end
unfoldable pub local_parser : Production (List LocalModel)
local_parser = after_word (codes "local") listed_locals

-- ( LocalParser )
abbrev pub local_group : Production (List LocalModel)
local_group = paren local_parser

-- a further group has to follow: the second token is `local`, whatever the first token is
abbrev pub at_local : Test
at_local = second_word (codes "local")

abbrev pub local_follows : List Token → Bool
local_follows t = run at_local t

-- Heads of fields.
use Rattle.std.specs.Prelude.{ℕ, Bool, List, []}
use Rattle.wat_types.specs.Prelude.{Production, seq, made, no_items, Label, no_label, label_view, label}
use Rattle.wat_links.specs.Export.{inline_export_view, inline_export}
use Rattle.wat_links.specs.declared.field_head.FieldHead.{FieldHead}

-- the label of a field, and the names of its inline exports
pub record FieldHeadModel : Type 0 where
  pub label : Label
  pub exports : List (List ℕ)

abbrev pub field_head : Label → List (List ℕ) → FieldHeadModel
field_head l e = record { label = l; exports = e }

abbrev pub head_view : FieldHead → FieldHeadModel
head_view h = field_head (label_view h.id h.name) (inline_export_view h.exports)

-- the head without a label and without inline exports
abbrev pub no_head : FieldHeadModel
no_head = field_head no_label []

-- has no inline export
abbrev pub heapless_head : FieldHeadModel → Bool
heapless_head h = no_items h.exports

-- id? name? InlineExport
unfoldable pub head : Production FieldHeadModel
head = made (λ v. field_head v.0 v.1) (seq label inline_export)

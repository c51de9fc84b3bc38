-- How inline exports, inline imports and the heads of fields are written.
use Rattle.std.specs.Prelude.{◌≡◌, ℕ, true, List, ◌∷◌, codes}
use Rattle.wat_core.specs.Prelude.{begins_inline_export, FieldHeadModel}
use Rattle.wat_print_instr.specs.Prelude.{Token, LParen, RParen, Keyword, String, Label, Form, seq_form, by, many_form, group_form, label_form, text_form}

-- ( word name )
abbrev pub name_group_form : List ℕ → Form (List ℕ)
name_group_form w = record (group_form w text_form) {
  Fronts = λ rest test. ((n : List ℕ) (y : List Token)
      → test (LParen ∷ Keyword w ∷ String n ∷ RParen ∷ y) ≡ true);
}

-- ( export name )
abbrev pub inline_name_form : Form (List ℕ)
inline_name_form = name_group_form (codes "export")

-- ( export name )*
abbrev pub inline_export_form : Form (List (List ℕ))
inline_export_form = many_form begins_inline_export inline_name_form

-- ( import name name )
abbrev pub inline_import_form : Form (List ℕ × List ℕ)
inline_import_form = record (group_form (codes "import") (seq_form text_form text_form)) {
  Fronts = λ rest test. ((m n : List ℕ) (y : List Token)
      → test (LParen ∷ Keyword (codes "import") ∷ String m ∷ String n ∷ RParen ∷ y) ≡ true);
}

abbrev pub head_parts : FieldHeadModel → Label × List (List ℕ)
head_parts h = (h.label, h.exports)

-- id? name? InlineExport
abbrev pub head_form : Form FieldHeadModel
head_form = by head_parts (seq_form label_form inline_export_form)

-- How the `producers` section is written.
use Rattle.std.specs.Prelude.{ℕ, Bool, not, ◌&&◌, if◌then◌else◌, List, [], ◌∷◌, codes, flat_map, Vec}
use Rattle.std.specs.declared.alloc.Global.{Global}
use Rattle.wat_core.specs.Prelude.{Versioned, names_view}
use Rattle.wat_print_instr.specs.Prelude.{Bor, bytes_eq, more, no_items, any, Form, seq_form, many_form, group_form, each, text_form, plain_form, annotation_form}

-- a field: its word and its entries
abbrev pub ProducersModel : Type 0
ProducersModel = List ℕ × List Versioned

-- the view of a field
abbrev pub produced_view
    : Bor (List ℕ) × Vec (Bor (List ℕ) × Bor (List ℕ)) Global → ProducersModel
produced_view f = (f.0.now, names_view f.1.items)

-- ---- fields and their entries

-- a name and a version
abbrev pub versioned_form : Form Versioned
versioned_form = seq_form text_form text_form

-- ( word name version )
abbrev pub produced_form : List ℕ → Form Versioned
produced_form w = group_form w versioned_form

-- the entries of a field; a field has an entry
abbrev pub field_form : Form ProducersModel
field_form =
    plain_form (λ f. flat_map (produced_form f.0).spell f.1)
    (λ f. not (no_items f.1) && each versioned_form.printable f.1) any

-- the fields after the first field, if the first field has the word; else all fields
abbrev pub fields_behind : List ℕ → List ProducersModel → List ProducersModel
fields_behind w [] = []
fields_behind w (f ∷ fs) = if bytes_eq f.0 w then fs else f ∷ fs

-- fields with these words, in this order, each at most once
abbrev pub are_in_turn : List ProducersModel → Bool
are_in_turn fs =
    no_items (fields_behind (codes "processed-by")
    (fields_behind (codes "sdk") (fields_behind (codes "language") fs)))

-- ---- the section

abbrev pub all_fields_form : Form (List ProducersModel)
all_fields_form = many_form more field_form

abbrev pub printable_producers : List ProducersModel → Bool
printable_producers fs = all_fields_form.printable fs && are_in_turn fs

abbrev pub fields_form : Form (List ProducersModel)
fields_form = plain_form all_fields_form.spell printable_producers all_fields_form.follows

-- @producers entries
abbrev pub producers_form : Form (List ProducersModel)
producers_form = annotation_form (codes "producers") fields_form

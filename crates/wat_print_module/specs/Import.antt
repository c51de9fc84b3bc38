-- How imports are written.
use Rattle.std.specs.Prelude.{ℕ, Bool, ◌&&◌, List, codes, is_none, ◌⊎◌}
use Rattle.std.proofs.Common.{inl, inr}
use Rattle.wat_print_instr.specs.Prelude.{ends, begins_lparen, Form, seq_form, by, else_form, many_form, paren_form, after_form, group_form, told_form, text_form}
use Rattle.wat_links.specs.Import.{ImportItemsModel, single, group1, group2, ImportsModel, typed, item_follows}
use Rattle.wat_links.specs.Item.{ItemSigModel}
use Rattle.wat_print_module.specs.FieldHead.{name_group_form}
use Rattle.wat_print_module.specs.Item.{printable_sig, sig_form}

-- name ( ItemSig )
abbrev pub single_form : Form (List ℕ × ItemSigModel)
single_form = seq_form text_form (paren_form sig_form)

-- ( item name ( ItemSig ) )
abbrev pub typed_form : Form (List ℕ × ItemSigModel)
typed_form = group_form (codes "item") single_form

abbrev pub typed_items_form : Form (List (List ℕ × ItemSigModel))
typed_items_form = many_form item_follows typed_form

-- ( item name )
abbrev pub named_form : Form (List ℕ)
named_form = name_group_form (codes "item")

abbrev pub named_items_form : Form (List (List ℕ))
named_items_form = many_form item_follows named_form

-- a shared signature has no identifier
abbrev pub printable_shared : ItemSigModel → Bool
printable_shared s = is_none s.label.id && printable_sig s

abbrev pub shared_form : Form ItemSigModel
shared_form = record sig_form { printable = printable_shared; ready = printable_shared }

-- ( item name )* ( ItemSig )
abbrev pub sharing_form : Form (List (List ℕ) × ItemSigModel)
sharing_form = seq_form named_items_form (paren_form shared_form)

abbrev pub items_parts
    : ImportItemsModel
    → List (List ℕ × ItemSigModel) ⊎ (List (List ℕ) × ItemSigModel ⊎ List ℕ × ItemSigModel)
items_parts (group1 xs) = inl xs
items_parts (group2 s ns) = inr (inl (ns, s))
items_parts (single n s) = inr (inr (n, s))

-- items with signatures; items and their shared signature; a name and its signature
abbrev pub items_form : Form ImportItemsModel
items_form =
    by items_parts (told_form ends typed typed_items_form
    (else_form begins_lparen sharing_form single_form))

abbrev pub imports_parts : ImportsModel → List ℕ × ImportItemsModel
imports_parts i = (i.from, i.items)

-- import name items
abbrev pub imports_form : Form ImportsModel
imports_form = by imports_parts (after_form (codes "import") (seq_form text_form items_form))

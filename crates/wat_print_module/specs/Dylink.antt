-- How the `dylink.0` section is written.
use Rattle.std.specs.Prelude.{ℕ, Bool, true, false, ◌&&◌, List, [], ◌∷◌, Some, codes, flat_map, ◌⊎◌}
use Rattle.std.proofs.Common.{inl, inr}
use Rattle.wat_core.specs.Prelude.{Dylink0SubsectionModel, mem_info, needed, export_info, import_info, runtime_path, target_arch, Dylink0Entry, of_export, of_import, other, entries_in}
use Rattle.wat_print_instr.specs.Prelude.{begins_group, begins_word, second, more, Form, seq_form, by, by_where, else_form, filled_form, many_form, group_form, text_form, plain_form, is_unsigned, unsigned_form, annotation_form}
use Rattle.wat_links.specs.Dylink.{begins_export, begins_import}

-- ---- entries of exports and of imports

abbrev pub one_number : ℕ → List ℕ
one_number n = n ∷ []

-- all flags as one number
abbrev pub flags_form : Form ℕ
flags_form = by_where (is_unsigned 32) one_number (many_form more (unsigned_form 32))

-- ( export-info name flags )
abbrev pub export_form : Form (List ℕ × ℕ)
export_form = group_form (codes "export-info") (seq_form text_form flags_form)

abbrev pub import_parts : List ℕ × List ℕ × ℕ → List ℕ × (List ℕ × ℕ)
import_parts e = (e.0, (e.1, e.2))

-- ( import-info module name flags )
abbrev pub import_form : Form (List ℕ × List ℕ × ℕ)
import_form =
    group_form (codes "import-info")
    (by import_parts (seq_form text_form (seq_form text_form flags_form)))

-- ---- other entries

-- ( word size alignment )
abbrev pub sizes_form : List ℕ → Form (ℕ × ℕ)
sizes_form w =
    by Some (filled_form (second (begins_word w))
    (group_form w (seq_form (unsigned_form 32) (unsigned_form 32))))

-- ( word name* )
abbrev pub names_form : List ℕ → Form (List (List ℕ))
names_form w = group_form w (many_form more text_form)

abbrev pub Lone : Type 0
Lone = (ℕ × ℕ) × (ℕ × ℕ) ⊎ (List (List ℕ) ⊎ (List (List ℕ) ⊎ List ℕ))

abbrev pub lone_parts : Dylink0SubsectionModel → Lone
lone_parts (mem_info ms ma ts ta) = inl ((ms, ma), (ts, ta))
lone_parts (needed ns) = inr (inl ns)
lone_parts (runtime_path ns) = inr (inr (inl ns))
lone_parts (target_arch n) = inr (inr (inr n))
lone_parts _ = inr (inl [])

abbrev pub tree_form : Form Lone
tree_form =
    else_form (begins_group (codes "mem-info")) (group_form (codes "mem-info")
    (seq_form (sizes_form (codes "memory")) (sizes_form (codes "table"))))
    (else_form (begins_group (codes "needed")) (names_form (codes "needed"))
    (else_form (begins_group (codes "runtime-path")) (names_form (codes "runtime-path"))
    (group_form (codes "target-arch") text_form)))

-- the subsection is of neither exports nor imports
abbrev pub is_lone : Dylink0SubsectionModel → Bool
is_lone (export_info es) = false
is_lone (import_info es) = false
is_lone _ = true

abbrev pub printable_lone : Dylink0SubsectionModel → Bool
printable_lone s = is_lone s && tree_form.printable (lone_parts s)

abbrev pub lone_form : Form Dylink0SubsectionModel
lone_form = by_where printable_lone lone_parts tree_form

-- ---- any entry

abbrev pub entry_parts : Dylink0Entry → List ℕ × ℕ ⊎ (List ℕ × List ℕ × ℕ ⊎ Dylink0SubsectionModel)
entry_parts (of_export e) = inl e
entry_parts (of_import e) = inr (inl e)
entry_parts (other s) = inr (inr s)

abbrev pub entry_form : Form Dylink0Entry
entry_form =
    by entry_parts (else_form begins_export export_form
    (else_form begins_import import_form lone_form))

abbrev pub entries_form : Form (List Dylink0Entry)
entries_form = many_form more entry_form

-- ---- subsections that can be written

-- a subsection of exports or of imports has an entry
abbrev pub is_filled : Dylink0SubsectionModel → Bool
is_filled (export_info []) = false
is_filled (import_info []) = false
is_filled _ = true

-- the subsection and the first of the others aren't both of exports or both of imports
abbrev pub is_apart : Dylink0SubsectionModel → List Dylink0SubsectionModel → Bool
is_apart (export_info es) (export_info fs ∷ ss) = false
is_apart (import_info es) (import_info fs ∷ ss) = false
is_apart _ _ = true

-- the subsections are as parsed: adjacent entries of one kind form one subsection
abbrev pub are_cut : List Dylink0SubsectionModel → Bool
are_cut [] = true
are_cut (s ∷ ss) = is_filled s && (is_apart s ss && are_cut ss)

abbrev pub printable_dylink : List Dylink0SubsectionModel → Bool
printable_dylink ss = entries_form.printable (flat_map entries_in ss) && are_cut ss

abbrev pub subsections_form : Form (List Dylink0SubsectionModel)
subsections_form =
    plain_form (λ ss. entries_form.spell (flat_map entries_in ss)) printable_dylink
    entries_form.follows

-- @dylink.0 entries
abbrev pub dylink_form : Form (List Dylink0SubsectionModel)
dylink_form = annotation_form (codes "dylink.0") subsections_form

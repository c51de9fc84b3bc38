-- How custom sections are written.
use Rattle.std.specs.Prelude.{ℕ, List, codes, ◌⊎◌}
use Rattle.std.proofs.Common.{inl, inr}
use Rattle.wat_core.specs.Prelude.{CustomModel, raw, produced, linked, Dylink0SubsectionModel, RawCustomSectionModel, CustomPlace}
use Rattle.wat_print_instr.specs.Prelude.{more, Form, seq_form, by, else_form, many_form, string_form, text_form, annotation_form}
use Rattle.wat_links.specs.Custom.{begins_annotated}
use Rattle.wat_print_module.specs.CustomPlace.{place_group_form}
use Rattle.wat_print_module.specs.Dylink.{dylink_form}
use Rattle.wat_print_module.specs.Producers.{ProducersModel, producers_form}

-- strings of bytes
abbrev pub pieces_form : Form (List (List ℕ))
pieces_form = many_form more string_form

abbrev pub raw_parts : RawCustomSectionModel → List ℕ × (CustomPlace × List (List ℕ))
raw_parts r = (r.name, (r.place, r.data))

-- name ( place )? bytes*
abbrev pub raw_content_form : Form RawCustomSectionModel
raw_content_form = by raw_parts (seq_form text_form (seq_form place_group_form pieces_form))

abbrev pub raw_form : Form RawCustomSectionModel
raw_form = annotation_form (codes "custom") raw_content_form

abbrev pub custom_parts : CustomModel
    → List ProducersModel ⊎ (List Dylink0SubsectionModel ⊎ RawCustomSectionModel)
custom_parts (produced fs) = inl fs
custom_parts (linked ss) = inr (inl ss)
custom_parts (raw r) = inr (inr r)

abbrev pub custom_form : Form CustomModel
custom_form =
    by custom_parts (else_form (begins_annotated (codes "producers")) producers_form
    (else_form (begins_annotated (codes "dylink.0")) dylink_form raw_form))

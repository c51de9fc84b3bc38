-- Laws: custom sections are read again.
use Rattle.std.proofs.Common.{codes, refl, rules, arith, lit≤}
use Rattle.wat_core.specs.Prelude.{string, raw, produced, linked, custom, raw_data, raw_custom}
use Rattle.wat_print_module.specs.Prelude.{paren, many, at_more, paren_form, Prints, Inside, seq_prints, made_prints, whole_prints, many_prints, grouped_prints, else_inside, string_prints, text_prints, annotated}
use Rattle.wat_links.specs.Custom.{at_annotated}
use Rattle.wat_links.specs.Raw.{raw_of}
use Rattle.wat_print_module.specs.Custom.{pieces_form, raw_parts, raw_form, custom_parts, custom_form}
use Rattle.wat_print_module.specs.Laws.CustomPlace.{place_group_prints}
use Rattle.wat_print_module.specs.Laws.Dylink.{dylink_inside}
use Rattle.wat_print_module.specs.Laws.Producers.{producers_inside}

-- ---- raw sections

pub pieces_prints : Prints pieces_form (many at_more string (lit≤ tt))
pieces_prints = many_prints at_more string_prints (lit≤ tt) (search rules) (search rules)

raw_inside : Inside raw_form (λ v. v) raw_custom
unfolding raw_custom raw_data
raw_inside =
    annotated (whole_prints (made_prints (seq_prints text_prints
    (seq_prints place_group_prints pieces_prints (search rules)) (search rules))
    (λ v. raw_of v.0 v.1.0 v.1.1)) raw_parts (λ r h. refl) (λ r h. h) (λ v h. h)) refl
    (codes "custom") refl refl refl

pub raw_prints : Prints (paren_form raw_form) (paren raw_custom)
raw_prints = grouped_prints raw_inside

-- ---- custom sections

pub custom_inside : Inside custom_form (λ v. v) custom
unfolding custom
custom_inside =
    whole_prints (else_inside (at_annotated (codes "producers"))
    (made_prints producers_inside produced)
    (else_inside (at_annotated (codes "dylink.0")) (made_prints dylink_inside linked)
    (made_prints raw_inside raw) (search rules) (search rules)) (search rules)
    (search rules)) custom_parts (λ v h. grind arith) (λ v h. grind arith) (λ v h. grind arith)

pub custom_prints : Prints (paren_form custom_form) (paren custom)
custom_prints = grouped_prints custom_inside

-- Laws: tags are read again.
use Rattle.std.proofs.Common.{codes, rules, refl}
use Rattle.wat_print_module.specs.Prelude.{at_inline_import, Prints, seq_prints, made_prints, whole_prints, option_prints, after_prints, use_prints, inline_import_prints, head_prints, no_export, no_import_word}
use Rattle.wat_fields.specs.Tag.{tag_of, tag}
use Rattle.wat_print_module.specs.Tag.{tag_parts, tag_form}

pub tag_prints : Prints tag_form tag
unfolding tag
tag_prints =
    whole_prints (after_prints (made_prints (seq_prints head_prints
    (seq_prints (option_prints at_inline_import inline_import_prints (λ m n y. refl))
    use_prints (search (rules, no_import_word))) (search (rules, no_export)))
    (λ v. tag_of v.0 v.1.0 v.1.1)) (codes "tag") refl refl) tag_parts (λ t h. refl) (λ t h. h)
    (λ v h. h)

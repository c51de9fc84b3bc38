-- Laws: exports and their types are read again.
use Rattle.std.proofs.Common.{codes, refl, rules, arith}
use Rattle.wat_print_module.specs.Prelude.{Prints, seq_prints, made_prints, whole_prints, paren_prints, after_prints, index_prints, named_prints, sig_prints, text_prints}
use Rattle.wat_links.specs.Export.{kind_words, export_kind, export_of, export_, export_type, export_kind_word}
use Rattle.wat_print_module.specs.Export.{export_kind_form, export_parts, export_form, export_type_form}
use Rattle.wat_links.specs.Laws.Named.{kind_is_named}

pub export_kind_prints : Prints export_kind_form export_kind
unfolding export_kind
export_kind_prints =
    named_prints kind_words export_kind_word (λ k. grind arith) kind_is_named

pub export_prints : Prints export_form export_
unfolding export_
export_prints =
    whole_prints (after_prints (made_prints (seq_prints text_prints
    (paren_prints (seq_prints export_kind_prints index_prints (search rules))) (search rules))
    (λ v. export_of v.0 v.1.0 v.1.1)) (codes "export") refl refl) export_parts (λ e h. refl)
    (λ e h. h) (λ v h. h)

pub export_type_prints : Prints export_type_form export_type
unfolding export_type
export_type_prints =
    after_prints (seq_prints text_prints (paren_prints sig_prints) (search rules)) (codes "export")
    refl refl

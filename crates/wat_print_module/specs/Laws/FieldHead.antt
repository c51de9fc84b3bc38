-- Laws: inline exports, inline imports and the heads of fields are read again.
use Rattle.std.proofs.Common.{codes, ◌≡◌, ℕ, true, List, refl, rules}
use Rattle.wat_core.specs.Prelude.{inline_export, field_head, head, inline_import}
use Rattle.wat_print_instr.specs.Laws.Prelude.{bytes_eq, group, text, Prints, is_keyword, seq_prints, made_prints, whole_prints, many_prints, group_prints, label_prints, text_prints}
use Rattle.wat_links.specs.Export.{at_inline_export}
use Rattle.wat_links.specs.InlineName.{inline_name}
use Rattle.wat_links.specs.Laws.Export.{inline_name_consumes}
use Rattle.wat_print_module.specs.FieldHead.{inline_export_form, inline_import_form, head_parts, head_form, name_group_form}

pub name_group_prints : (w : List ℕ) → is_keyword w ≡ true → bytes_eq w w ≡ true
    → Prints (name_group_form w) (group w text)
name_group_prints w k e =
    let p = group_prints text_prints w k e in
    record {
      nests = p.nests;
      front = λ rest test f n r h i e. f n r;
      here = p.here;
      only = p.only;
    }

pub inline_export_prints : Prints inline_export_form inline_export
unfolding inline_export inline_name
inline_export_prints =
    many_prints at_inline_export (name_group_prints (codes "export") refl refl)
    inline_name_consumes (λ n y. refl) (λ n y. refl)

pub inline_import_prints : Prints inline_import_form inline_import
unfolding inline_import
inline_import_prints =
    let p = group_prints (seq_prints text_prints text_prints (search rules)) (codes "import") refl
    refl in
    record {
      nests = p.nests;
      front = λ rest test f v r h i e. f v.0 v.1 r;
      here = p.here;
      only = p.only;
    }

pub head_prints : Prints head_form head
unfolding head
head_prints =
    whole_prints (made_prints (seq_prints label_prints inline_export_prints (λ n y. refl))
    (λ v. field_head v.0 v.1)) head_parts (λ h k. refl) (λ h k. k) (λ v k. k)

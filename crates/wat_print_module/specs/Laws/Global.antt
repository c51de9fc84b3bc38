-- Laws: globals are read again.
use Rattle.std.proofs.Common.{◌≡◌, false, codes, refl, rules, arith}
use Rattle.wat_print_instr.specs.Prelude.{ValTypeModel, global_form}
use Rattle.wat_print_module.specs.Prelude.{bytes_eq, AbstractHeapType, at_inline_import, any, Prints, seq_prints, made_prints, whole_prints, else_prints, after_prints, global_prints, no_mnemonic, expression_form, expression_front, expression_prints, head_prints, inline_import_prints, no_export, no_import_word, short_word}
use Rattle.wat_fields.specs.Global.{imported, inline, global_of, global_defined, global}
use Rattle.wat_print.specs.Reference.{plain_word}
use Rattle.wat_print_module.specs.Global.{defined_global_parts, defined_global_form, global_field_parts, global_field_form}

-- ---- words that no value type begins with

plain_no_export : (t : ValTypeModel) → bytes_eq (plain_word t) (codes "export") ≡ false
plain_no_export t = grind arith

short_no_export : (t : AbstractHeapType) → bytes_eq (short_word t) (codes "export") ≡ false
short_no_export t = grind arith

plain_no_import : (t : ValTypeModel) → bytes_eq (plain_word t) (codes "import") ≡ false
plain_no_import t = grind arith

short_no_import : (t : AbstractHeapType) → bytes_eq (short_word t) (codes "import") ≡ false
short_no_import t = grind arith

-- ---- globals

-- no expression continues a global type
behind_type : expression_form.Fronts any global_form.follows
behind_type =
    expression_front global_form.follows
    (λ h y. rw (no_mnemonic (codes "shared") refl h, no_mnemonic (codes "mut") refl h) refl)
    (λ y. refl)

defined_global_prints : Prints defined_global_form global_defined
unfolding global_defined
defined_global_prints =
    whole_prints (else_prints at_inline_import
    (made_prints (seq_prints inline_import_prints global_prints (search rules))
    (λ v. (v.1, imported v.0)))
    (made_prints (seq_prints global_prints expression_prints behind_type) (λ v. (v.0, inline v.1)))
    (λ m n y. refl) (search (rules, no_import_word, plain_no_import, short_no_import)))
    defined_global_parts (λ d h. grind arith) (λ d h. h) (λ v h. grind arith)

pub global_field_prints : Prints global_field_form global
unfolding global
global_field_prints =
    whole_prints (after_prints (made_prints (seq_prints head_prints defined_global_prints
    (search (rules, no_export, plain_no_export, short_no_export))) (λ v. global_of v.0 v.1))
    (codes "global") refl refl) global_field_parts (λ g h. refl) (λ g h. h) (λ v h. h)

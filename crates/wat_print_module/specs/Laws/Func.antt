-- Laws: functions are read again.
use Rattle.std.proofs.Common.{◌≡◌, true, not, List, [], ◌∷◌, ◌++◌, codes, refl, rules, arith}
use Rattle.wat_print_module.specs.Prelude.{Token, seq, begins_inline_import, at_inline_import, ExpressionModel, expression, LocalModel, locals, Test, Prints, seq_prints, made_prints, whole_prints, else_prints, after_prints, use_prints, ends_expression, head_form, expression_front, expression_prints, head_prints, inline_import_prints, no_export, no_import_word}
use Rattle.wat_print_module.specs.Laws.Body.{behind_locals, behind_use}
use Rattle.wat_links.specs.Item.{func_use}
use Rattle.wat_fields.specs.Func.{imported, inline, func_of, func_import, func_inline, func_defined, func}
use Rattle.wat_print_instr.specs.Laws.Form.{next_prints}
use Rattle.wat_print_module.specs.Func.{body_form, inline_func_form, defined_func_parts, defined_func_form, func_parts, func_form}
use Rattle.wat_print_module.specs.Laws.Item.{exact_prints}
use Rattle.wat_print_module.specs.Laws.Local.{locals_prints}

-- ---- a type, locals and a body

body_front : (rest test : Test) → body_form.Fronts rest test
    → (v : List LocalModel × ExpressionModel)
    (r : List Token) → body_form.ready v ≡ true → rest r ≡ true → test r ≡ true
    → test (body_form.spell v ++ r) ≡ true
body_front rest test f ([], e) r h i k = f.1 e r h i k
body_front rest test f (l ∷ ls, e) r h i k = f.0 _ refl

body_prints : Prints body_form (seq locals expression)
body_prints =
    let p = next_prints ends_expression locals_prints expression_prints refl refl behind_locals in
    record {
      nests = p.nests;
      front = body_front;
      here = p.here;
      only = p.only;
    }

inline_func_prints : Prints inline_func_form (seq func_use (seq locals expression))
inline_func_prints =
    next_prints ends_expression use_prints body_prints refl refl (λ y h. refl, behind_use)

-- ---- functions

defined_func_prints : Prints defined_func_form func_defined
unfolding func_defined func_import func_inline
defined_func_prints =
    whole_prints (else_prints at_inline_import
    (made_prints (seq_prints inline_import_prints exact_prints (search rules))
    (λ v. (v.1.0, imported v.0 v.1.1)))
    (made_prints inline_func_prints (λ v. (v.0, inline v.1.0 v.1.1))) (λ m n y. refl)
    (search (
      rules,
      no_import_word,
      expression_front (λ t. not (begins_inline_import t)) (λ o y. refl) (λ y. refl),
    )))
    defined_func_parts (λ d h. grind arith) (λ d h. h) (λ v h. grind arith)

pub func_prints : Prints func_form func
unfolding func
func_prints =
    whole_prints (after_prints (made_prints (seq_prints head_prints defined_func_prints
    (search (rules, no_export, expression_front head_form.follows (λ o y. refl) (λ y. refl))))
    (λ v. func_of v.0 v.1)) (codes "func") refl refl) func_parts
    (λ f h. refl) (λ f h. h) (λ v h. h)

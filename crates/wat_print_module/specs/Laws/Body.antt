-- Laws: the first tokens of expressions, and the tests that stand before the body of a function.
use Rattle.std.specs.Prelude.{◌≡◌, true, not, List, ◌∷◌, codes, refl}
use Rattle.std.proofs.lemmas.Bool.{not-false, not_from_true}
use Rattle.wat_print_instr.specs.Laws.Prelude.{and_parts, Token, LParen, Keyword, op_word, Op, end_denied, hint_name, Test, any, use_form, no_mnemonic, not-true}
use Rattle.wat_print_instr.specs.Laws.Expression.{NoMnemonic, expression_first, expression_second, expression_no_type}
use Rattle.wat_types.specs.Group.{begins_func, at_func}
use Rattle.wat_fields.specs.Local.{local_follows}
use Rattle.wat_print_module.specs.Expression.{ends_expression, expression_form}
use Rattle.wat_print_module.specs.Local.{locals_form}
use Rattle.wat_print_module.specs.Laws.Expression.{end_of}

-- a test passes on expressions if it passes on each mnemonic and on each hint
pub expression_front : (test : Test)
    → ((o : Op) (y : List Token) → test (Keyword (op_word o) ∷ y) ≡ true)
    → ((y : List Token) → test (LParen ∷ hint_name ∷ y) ≡ true) → expression_form.Fronts any test
expression_front test f g e r h i k =
    not-false (test _)
    (expression_first (λ t. not (test t)) (λ o y. (not_from_true _ (f o y)))
    (λ y. (not_from_true _ (g y))) e r (not_from_true (test r) k))

no_local : NoMnemonic (codes "local")
no_local = no_mnemonic (codes "local") refl

-- no expression continues locals
pub behind_locals : expression_form.Fronts ends_expression locals_form.follows
behind_locals e r f k h =
    rw (expression_second (codes "local") refl no_local e r f (end_of r k).0
    (not-true (local_follows r) (and_parts (not (local_follows r)) _ h).0)) refl

-- no expression continues a type use
pub behind_use : expression_form.Fronts ends_expression use_form.follows
behind_use e r f k h =
    let a = end_of r k in
    let n = expression_no_type e r f a in
    let b = expression_first begins_func (λ o y. refl) (λ y. refl) e r
    (end_denied at_func.asks r refl a.0) in
    rw (n.0, b, n.1, n.2) refl

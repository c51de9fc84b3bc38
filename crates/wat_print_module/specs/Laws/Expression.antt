-- Laws: expressions are read again at the end of their group.
use Rattle.std.specs.Prelude.{◌≡◌, true, not, ◌&&◌, List, codes}
use Rattle.wat_print_instr.specs.Laws.Prelude.{and_parts, Token, begins_word, ends, second, expression, Prints, spell_expression, EndsExpression, expression_closed, expression_well_formed, expression_only, plain_prints, not-true}
use Rattle.wat_print_module.specs.Expression.{ends_expression, expression_form}

pub end_of : (r : List Token) → ends_expression r ≡ true → EndsExpression r
end_of r e =
    let t = second (begins_word (codes "type")) r in
    let p = second (begins_word (codes "param")) r in
    let q = second (begins_word (codes "result")) r in
    let a = and_parts (ends r) (not t && (not p && not q)) e in
    let b = and_parts (not t) (not p && not q) a.1 in
    let c = and_parts (not p) (not q) b.1 in
    (a.0, (not-true t b.0, not-true p c.0, not-true q c.1))

pub expression_prints : Prints expression_form expression
expression_prints =
    plain_prints spell_expression expression_well_formed
    (λ v r h e. expression_closed v r h (end_of r e)) expression_only

-- How expressions are written in fields.
use Rattle.std.specs.Prelude.{not, ◌&&◌, codes}
use Rattle.wat_print_instr.specs.Prelude.{begins_word, ends, second, ExpressionModel, Test, Form, spell_expression, printable_expression, plain_form}

-- nothing, or `)` without `type`, `param` and `result` after it
abbrev pub ends_expression : Test
ends_expression r =
    ends r && (not (second (begins_word (codes "type")) r)
    && (not (second (begins_word (codes "param")) r)
    && not (second (begins_word (codes "result")) r)))

abbrev pub expression_form : Form ExpressionModel
expression_form = plain_form spell_expression printable_expression ends_expression

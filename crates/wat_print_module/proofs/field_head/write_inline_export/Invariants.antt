use Rattle.std.specs.Prelude.{drop, map}
use Rattle.wat_print.specs.Prints.{Left}
use Rattle.wat_print_module.specs.FieldHead.{inline_name_form}
use Rattle.wat_print_module.proofs.field_head.write_inline_export.Given as goal

abbrev pub invariant-loop-name : goal.invariant-loop-name
invariant-loop-name l =
    Left inline_name_form (map (λ n. n.now) (drop l.name-index l.exports.names.items))
    (map (λ n. n.now) l.exports.names.items) l.fn.out l.out

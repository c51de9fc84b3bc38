use Rattle.wat_print_instr.specs.Laws.Prelude.{may_break, on_one_line}
use Rattle.wat_print_module.specs.Prelude.{module_view, spell_module_group}
use Rattle.wat_print_module.specs.Laws.Module.{module_reads_back}
use Rattle.wat_print_module.proofs.module.print_module.Goals as goal

pub returns-clause-reads_back : goal.returns-clause-reads_back
returns-clause-reads_back c =
    let v = module_view c.args.value.now in
    let printable = c.in_ok-write_module.ensures.printable in
    module_reads_back v (may_break c.args.layout) c.new-out.result
    c.write_module.new.out _ printable
    c.new-out.ensures c.in_ok-write_module.ensures.written c.into_text.ensures

pub returns-clause-line : goal.returns-clause-line
returns-clause-line c e =
    on_one_line c.args.layout (spell_module_group (module_view c.args.value.now))
    c.new-out.result c.write_module.new.out _ e c.new-out.ensures
    c.in_ok-write_module.ensures.written c.into_text.ensures

use Rattle.std.proofs.Common.{◌++◌, [], ◌∙◌}
use Rattle.wat_print_instr.specs.Laws.Prelude.{instruction_view, spell_option, puts_put, puts_both, put_then, spell_hint, spell_instruction}
use Rattle.wat_print_instr.proofs.expression.write_step.Goals as goal

pub returns-clause-written : goal.returns-clause-written
returns-clause-written c =
    let h = spell_option spell_hint c.args.hint in
    let i = spell_instruction (instruction_view c.args.instr.now) in
    puts_both [] (h ++ i) _ _ _ c.in_ok-begin_step.ensures.written
    (puts_put (h ++ i) _ _ (put_then h i _ _ _ c.in_ok-write_hint.ensures.written
    (c.end_step.ensures ∙ c.in_ok-write.ensures.written)))

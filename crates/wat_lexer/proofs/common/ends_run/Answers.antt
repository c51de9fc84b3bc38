use Rattle.std.specs.Prelude.{get_or}
use Rattle.wat_lexer.proofs.Commons.{no_run_byte}
use Rattle.wat_lexer.proofs.common.ends_run.Goals as goal

pub returns-then-b-ne34-clause-ends : goal.returns-then-b-ne34-clause-ends
returns-then-b-ne34-clause-ends c = λ h lt.
    let b = get_or c.args.text.now c.args.at 0 in
    no_run_byte b c.is_idchar.result c.is_idchar.ensures h c.if-b-ne34.true

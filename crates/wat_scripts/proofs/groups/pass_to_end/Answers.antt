use Rattle.std.proofs.Common.{◌<◌, ◌+◌, arith, ap, ℕ}
use Rattle.wat_tokens.specs.Prelude.{offset_of}
use Rattle.wat_scripts.specs.Steps.{usize_max}
use Rattle.wat_scripts.proofs.Fronts.{behind_close, moved_ready, end_front, none_front}
use Rattle.wat_scripts.proofs.groups.pass_to_end.Goals as goal

pub overflow_add-end : goal.overflow_add-end
overflow_add-end c =
    let b = behind_close usize_max c.args.parser.now (offset_of c.in-Some.close) c.pass_group.new.self.rest c.in-Some.ensures.closed in
    let below : offset_of c.in-Some.close < usize_max = b.below c.requires.below in
    omega (arith, c.offset-end.ensures)

pub returns-in-Some-clause-closed : goal.returns-in-Some-clause-closed
returns-in-Some-clause-closed c = (offset_of c.in-Some.close, ap (λ (n : ℕ). n + 1) c.offset-end.ensures, end_front c.requires c.in-Some.ensures.closed)

pub returns-in-Some-clause-ready : goal.returns-in-Some-clause-ready
returns-in-Some-clause-ready c =
    let b = behind_close usize_max c.args.parser.now (offset_of c.in-Some.close) c.pass_group.new.self.rest c.in-Some.ensures.closed in
    moved_ready c.pass_group.new.self b.n c.requires c.in-Some.ensures.only b.last

pub returns-in-Some-clause-less : goal.returns-in-Some-clause-less
returns-in-Some-clause-less c =
    let b = behind_close usize_max c.args.parser.now (offset_of c.in-Some.close) c.pass_group.new.self.rest c.in-Some.ensures.closed in
    b.less

pub returns-in-None-clause-unclosed : goal.returns-in-None-clause-unclosed
returns-in-None-clause-unclosed c = (c.unexpected.ensures, none_front c.requires c.in-None.ensures.closed.0)

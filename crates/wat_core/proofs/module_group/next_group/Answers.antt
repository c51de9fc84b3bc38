use Rattle.std.proofs.Common.{◌≤◌, ◌+◌, arith, rules, length, refl, Some, None}
use Rattle.wat_tokens.specs.Prelude.{offset_of}
use Rattle.wat_core.proofs.Groups.{found, within_still}
use Rattle.wat_core.proofs.module_group.next_group.Goals as goal

pub overflow_add-end : goal.overflow_add-end
overflow_add-end c =
    let f = found c.args.text.now c.args.parser.now c.offset-from.result _ c.utf8.text c.requires (cc) (rw c.offset-from.ensures c.cur_span.ensures) c.in-Some.ensures.closed in
    let within : c.offset-end.result + 1 ≤ length c.args.text.now = omega (arith, c.offset-end.ensures, f.part.ends.0) in
    search rules

pub returns-in-Some-clause-next : goal.returns-in-Some-clause-next
returns-in-Some-clause-next c =
    let f = found c.args.text.now c.args.parser.now c.offset-from.result _ c.utf8.text c.requires (cc) (rw c.offset-from.ensures c.cur_span.ensures) c.in-Some.ensures.closed in
    rw c.offset-end.ensures (f.next, f.part, f.less)

pub returns-in-Some-clause-within : goal.returns-in-Some-clause-within
returns-in-Some-clause-within c =
    let f = found c.args.text.now c.args.parser.now c.offset-from.result _ c.utf8.text c.requires (cc) (rw c.offset-from.ensures c.cur_span.ensures) c.in-Some.ensures.closed in
    within_still c.args.text.now c.args.parser.now c.pass_group.new.self c.offset-from.result (Some (offset_of c.in-Some.close, c.pass_group.new.self.rest)) c.in-Some.ensures.only refl c.requires f

pub returns-in-None-clause-next : goal.returns-in-None-clause-next
returns-in-None-clause-next c =
    let f = found c.args.text.now c.args.parser.now c.offset-from.result None c.utf8.text c.requires (cc) (rw c.offset-from.ensures c.cur_span.ensures) c.in-None.ensures.closed.0 in
    rw c.in-None.ensures.closed.1 (f.next, f.part, f.less)

pub returns-in-None-clause-within : goal.returns-in-None-clause-within
returns-in-None-clause-within c =
    let f = found c.args.text.now c.args.parser.now c.offset-from.result None c.utf8.text c.requires (cc) (rw c.offset-from.ensures c.cur_span.ensures) c.in-None.ensures.closed.0 in
    within_still c.args.text.now c.args.parser.now c.pass_group.new.self c.offset-from.result None c.in-None.ensures.only c.in-None.ensures.closed.1 c.requires f

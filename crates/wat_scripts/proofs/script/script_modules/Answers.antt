use Rattle.std.proofs.Common.{◌≢◌, ◌∙◌, ◌≤◌, [], ap, sym, List, length, true, false, arith, inl, inr}
use Rattle.wat_lexer.specs.Prelude.{FirstFault, Token, offset_of}
use Rattle.wat_tokens.specs.Tests.{none_left}
use Rattle.wat_scripts.specs.Steps.{usize_max, NoCommands, front}
use Rattle.wat_scripts.specs.declared.modules.ScriptModule.{ScriptModule}
use Rattle.wat_scripts.proofs.Fronts.{left_is, empty, not_empty}
use Rattle.wat_scripts.proofs.Outcomes.{if_value, if_failed, if_fault}
use Rattle.wat_scripts.proofs.Room.{begun_ready, parts_found, script_front, script_found}
use Rattle.wat_scripts.proofs.script.script_modules.Goals as goal

pub returns-in-Err-clause-refused : goal.returns-in-Err-clause-refused
returns-in-Err-clause-refused c = λ denied ns s. c.in-Err.ensures.uncut denied s.0 s.1

pub returns-then-at_end-clause-refused : goal.returns-then-at_end-clause-refused
returns-then-at_end-clause-refused c =
    let p = c.in-Ok.parser in
    let few : length c.args.text.now ≤ usize_max = omega arith in
    let r = begun_ready usize_max c.args.text.now p c.in-Ok.ensures.fresh few in
    let over = empty (front p) (ap (λ (t : List Token). none_left t) (sym (left_is r)) ∙ sym c.at_end.ensures ∙ c.if-at_end.true) in
    λ denied ns s. (script_front c.args.text.now p c.in-Ok.ensures.fresh ns s).0 over

pub take_commands-requires : goal.take_commands-requires
take_commands-requires c =
    let few : length c.args.text.now ≤ usize_max = omega arith in
    begun_ready usize_max c.args.text.now c.in-Ok.parser c.in-Ok.ensures.fresh few

pub returns-clause-found : goal.returns-clause-found
returns-clause-found c =
    let p = c.in-Ok.parser in
    let few : length c.args.text.now ≤ usize_max = omega arith in
    let r = begun_ready usize_max c.args.text.now p c.in-Ok.ensures.fresh few in
    let more : front p ≢ [] = not_empty (front p) (ap (λ (t : List Token). none_left t) (sym (left_is r)) ∙ sym c.at_end.ensures ∙ c.if-at_end.false) in
    if_value c.take_commands.result (λ v m. script_found c.args.text.now p c.in-Ok.ensures.fresh v.items (more, m)) c.take_commands.ensures.found

pub returns-clause-only : goal.returns-clause-only
returns-clause-only c =
    if_value c.take_commands.result (λ v only. λ ns s. only ns (script_front c.args.text.now c.in-Ok.parser c.in-Ok.ensures.fresh ns s).1) c.take_commands.ensures.only

pub returns-clause-refused : goal.returns-clause-refused
returns-clause-refused c =
    if_failed c.take_commands.result (λ (none : NoCommands (front c.in-Ok.parser)). λ (ns : List ScriptModule) s. none ns (script_front c.args.text.now c.in-Ok.parser c.in-Ok.ensures.fresh ns s).1) c.take_commands.ensures.refused

pub returns-clause-parts : goal.returns-clause-parts
returns-clause-parts c =
    if_value c.take_commands.result (λ v m. parts_found c.args.text.now c.in-Ok.parser c.in-Ok.ensures.fresh c.utf8.text v.items m) c.take_commands.ensures.found

pub returns-in-Err-clause-fault : goal.returns-in-Err-clause-fault
returns-in-Err-clause-fault c = λ denied. inr (c.in-Err.ensures.fault denied)

pub returns-then-at_end-clause-fault : goal.returns-then-at_end-clause-fault
returns-then-at_end-clause-fault c = λ _. inl c.unexpected.ensures

pub returns-clause-fault : goal.returns-clause-fault
returns-clause-fault c = if_fault (NoCommands (front c.in-Ok.parser)) (λ e. FirstFault c.args.text.now e.fault (offset_of e.span)) c.take_commands.result c.take_commands.ensures.refused

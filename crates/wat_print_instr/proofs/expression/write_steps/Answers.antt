use Rattle.std.proofs.Common.{◌≡◌, ◌≢◌, ℕ, ◌+◌, true, false, map, List, Option, rules, subst, sym}
use Rattle.wat_print_instr.specs.Prelude.{hint_view, instruction_view, Writes, Memory, step_of, spell_step, printable_step, printable_expression}
use Rattle.wat_print_instr.proofs.Walked.{Walked, walk_goes, walk_stops, drop_step}
use Rattle.wat_print_instr.proofs.expression.write_steps.Goals as goal

pub loop-index-preserved : goal.loop-index-preserved
loop-index-preserved c =
    let is = map instruction_view c.args.instrs.now in
    let hs = map hint_view c.args.hints.now in
    let b = c.loop-index.index in
    let x = c.index-instrs-index.result in
    let i = instruction_view x in
    let d = drop_step instruction_view c.args.instrs.now b x c.loop-index-test.true
    c.index-instrs-index.is in
    subst (λ (l : List (ℕ × ℕ)). Walked is hs (b + 1) l c.args.out.now c.write_step.new.out)
    (sym c.first_hint-hint.ensures.rest)
    (walk_goes is hs b (map hint_view c.loop-index.left.now) i c.args.out.now c.loop-index.out
    c.write_step.new.out d c.loop-index.invariant
    (subst (λ (h : Option ℕ). Writes (spell_step (step_of h i)) c.loop-index.out
    c.write_step.new.out) c.first_hint-hint.ensures.hint c.in_ok-write_step.ensures.written)
    (subst (λ (h : Option ℕ). printable_step (step_of h i) ≡ true) c.first_hint-hint.ensures.hint
    c.in_ok-write_step.ensures.printable))

pub returns-in_err-write_step-clause-refused : goal.returns-in_err-write_step-clause-refused
returns-in_err-write_step-clause-refused c =
    let is = map instruction_view c.args.instrs.now in
    let hs = map hint_view c.args.hints.now in
    let b = c.loop-index.index in
    let x = c.index-instrs-index.result in
    let i = instruction_view x in
    let d = drop_step instruction_view c.args.instrs.now b x c.loop-index-test.true
    c.index-instrs-index.is in
    let k = c.in_err-write_step.ensures.refused in
    let h : c.in_err-write_step.field-0.0 ≢ Memory
    → printable_expression (record { instrs = is; hints = hs }) ≡ false =
    λ n. walk_stops is hs b (map hint_view c.loop-index.left.now) i c.args.out.now c.loop-index.out
    d c.loop-index.invariant
    (subst (λ (h : Option ℕ). printable_step (step_of h i) ≡ false) c.first_hint-hint.ensures.hint
    (k n)) in
    search (rules, h)

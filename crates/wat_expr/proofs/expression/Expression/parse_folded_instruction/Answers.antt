use Rattle.std.proofs.Common.{rules, Ok, ap, ◌∙◌}
use Rattle.std.proofs.lemmas.Result.{err_from_is_err_and}
use Rattle.wat_expr.specs.Prelude.{no_output, folded_instruction, lparen_is}
use Rattle.wat_expr.proofs.FoldedLoop.{is_some, is_none, going_begins, going_on, going_smaller, innermost, going_halts, going_ends, folded_found, refused_first, not_begun, no_word, read_folded, read_not_heapless}
use Rattle.wat_expr.proofs.Heights.{refused_turns}
use Rattle.wat_expr.proofs.Whole.{read_accepted}
use Rattle.wat_expr.proofs.expression.Expression.parse_folded_instruction.Goals as goal

pub returns-in_err-open-clause-exact : goal.returns-in_err-open-clause-exact
unfolding folded_instruction
returns-in_err-open-clause-exact c =
    let p = err_from_is_err_and c.from_residual.result c.from_residual.ensures.1 in
    rw (p.1, p.2) ((λ not. not_begun _ c.in_err-open.ensures.reads.exact.0), (λ m. absurd (c.in_err-open.ensures.reads.exact.1 m)))

pub returns-in_err-open-clause-only : goal.returns-in_err-open-clause-only
unfolding folded_instruction
returns-in_err-open-clause-only c = λ i gs r l. read_accepted c.from_residual.result _ _ (returns-in_err-open-clause-exact c) _ r (read_folded i gs _ r l)

pub returns-in_err-open_group-clause-exact : goal.returns-in_err-open_group-clause-exact
unfolding folded_instruction
returns-in_err-open_group-clause-exact c =
    let p = err_from_is_err_and c.from_residual-in_err-open_group.result c.from_residual-in_err-open_group.ensures.1 in
    rw (p.1, p.2) ((λ not. no_word _ _ (lparen_is _ _ _ c.in_ok-open.ensures.reads.exact) (c.in_err-open_group.ensures.exact not)), (λ m. read_not_heapless c.args.parser.now.left))

pub returns-in_err-open_group-clause-only : goal.returns-in_err-open_group-clause-only
unfolding folded_instruction
returns-in_err-open_group-clause-only c = λ i gs r l. read_accepted c.from_residual-in_err-open_group.result _ _ (returns-in_err-open_group-clause-exact c) _ r (read_folded i gs _ r l)

pub returns-in_err-open_group-clause-counts : goal.returns-in_err-open_group-clause-counts
returns-in_err-open_group-clause-counts c =
    let p = err_from_is_err_and c.from_residual-in_err-open_group.result c.from_residual-in_err-open_group.ensures.1 in
    (search rules, rw p.1 (refused_first c.args.parser.now c.open.new.self c.open_group.new.parser c.in_ok-open.ensures.reads.counts.0 c.in_ok-open.ensures.reads.cost.0 c.in_err-open_group.ensures.steady.counts c.in_err-open_group.ensures.steady.stays.0))

pub returns-in_err-turn-clause-exact : goal.returns-in_err-turn-clause-exact
unfolding folded_instruction
returns-in_err-turn-clause-exact c =
    let p = err_from_is_err_and c.from_residual-in_err-turn.result c.from_residual-in_err-turn.ensures.1 in
    rw (p.1, p.2) ((λ not. going_halts _ _ _ _ _ c.tick.ensures.only c.groups.invariant (is_some _ _ c.is_empty.ensures c.groups-test.true) (c.in_err-turn.ensures.turned not)), (λ m. read_not_heapless c.args.parser.now.left))

pub returns-in_err-turn-clause-only : goal.returns-in_err-turn-clause-only
unfolding folded_instruction
returns-in_err-turn-clause-only c = λ i gs r l. read_accepted c.from_residual-in_err-turn.result _ _ (returns-in_err-turn-clause-exact c) _ r (read_folded i gs _ r l)

pub returns-in_err-turn-clause-counts : goal.returns-in_err-turn-clause-counts
returns-in_err-turn-clause-counts c =
    let p = err_from_is_err_and c.from_residual-in_err-turn.result c.from_residual-in_err-turn.ensures.1 in
    let g = c.groups.invariant in
    ((λ s n. c.in_err-turn.ensures.steady.counts s (c.tick.ensures.counts s (g.counts s n))), rw p.1 (refused_turns c.args.parser.now c.groups.parser c.tick.new.self c.turn.new.parser g.turned c.tick.ensures.only c.in_err-turn.ensures.steady.counts c.in_err-turn.ensures.steady.stays.0))

pub groups-init : goal.groups-init
groups-init c =
    let x = c.in_ok-open_group.ensures.exact in
    going_begins _ _ _ _ _ x.0 _ _ _ _ (rw c.new-open_groups.ensures at x.2) (c.empty-out.ensures ∙ ap no_output c.tracks.ensures) c.height.ensures c.note_height.ensures c.held.ensures c.note_held.ensures.only (lparen_is _ _ _ c.in_ok-open.ensures.reads.exact) c.in_ok-open.ensures.reads.counts.0 c.in_ok-open.ensures.reads.cost c.in_ok-open.ensures.reads.settings x.1 c.in_ok-open_group.ensures.steady.counts c.in_ok-open_group.ensures.steady.stays c.in_ok-open_group.ensures.steady.settings c.note_held.ensures.counts

pub turn-requires : goal.turn-requires
turn-requires c = innermost _ c.groups.invariant.unhinted (is_some _ _ c.is_empty.ensures c.groups-test.true)

pub groups-smaller : goal.groups-smaller
groups-smaller c =
    going_smaller _ _ _ _ _ _ _ _ _ _ _ c.tick.ensures.only c.note_height-in-groups.ensures c.note_held-in-groups.ensures.only (is_some _ _ c.is_empty.ensures c.groups-test.true) c.in_ok-turn.ensures.turned

pub groups-preserved : goal.groups-preserved
groups-preserved c =
    going_on _ _ _ _ _ _ _ _ _ _ _ _ c.tick.ensures.only c.height-in-groups.ensures c.note_height-in-groups.ensures c.held-in-groups.ensures c.note_held-in-groups.ensures.only (is_some _ _ c.is_empty.ensures c.groups-test.true) c.in_ok-turn.ensures.turned c.groups.invariant c.tick.ensures.counts c.in_ok-turn.ensures.steady.counts c.in_ok-turn.ensures.steady.stays c.in_ok-turn.ensures.steady.settings c.note_held-in-groups.ensures.counts

pub returns-clause-listed : goal.returns-clause-listed
returns-clause-listed c =
    let w = going_ends _ _ _ c.groups.out c.groups.invariant (is_none _ _ c.is_empty.ensures c.groups-test.false) in
    record {
      instr = w.instr;
      within = w.within;
      listed = w.listed;
      value = rw c.shrink_to_fit.ensures.items w.value;
      turned = w.turned;
      peak = w.peak;
      held = w.held;
    }

pub returns-clause-exact : goal.returns-clause-exact
unfolding folded_instruction
returns-clause-exact c = folded_found _ _ _ (returns-clause-listed c)

pub returns-clause-only : goal.returns-clause-only
unfolding folded_instruction
returns-clause-only c =
    let out = c.groups.out in
    λ i gs r l. read_accepted (Ok record { instrs = c.shrink_to_fit.new.self; branch_hints = out.branch_hints; instr_spans = out.instr_spans }) _ _ (returns-clause-exact c) _ r (read_folded i gs _ r l)

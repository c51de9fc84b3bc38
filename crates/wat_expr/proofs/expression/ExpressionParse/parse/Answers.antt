use Rattle.std.proofs.Common.{Ok, Some, None, true, false, length, subst, sym, ◌≡◌, rules}
use Rattle.std.proofs.lemmas.Result.{err_from_is_err_and}
use Rattle.wat_expr.proofs.Whole.{goes_on, refused, refused_counts, left_pending, reads_nothing_listed, listed, found, accepted}
use Rattle.wat_expr.proofs.expression.ExpressionParse.parse.Goals as goal

pub turns-preserved : goal.turns-preserved
turns-preserved c =
    goes_on _ _ _ _ _ _ _ _ _ _ c.tick.ensures.only c.height.ensures c.held.ensures c.note_height.ensures c.note_held.ensures.only c.turns.invariant c.turn.ensures.steady.counts c.turn.ensures.steady.stays c.turn.ensures.steady.settings c.tick.ensures.counts c.turns-test.ensures c.in_ok-turn.ensures.turned c.note_held.ensures.counts

pub returns-in_err-turn-clause-reads : goal.returns-in_err-turn-clause-reads
returns-in_err-turn-clause-reads c =
    let p = err_from_is_err_and c.from_residual.result c.from_residual.ensures.1 in
    record {
      exact = rw (p.1, p.2) (refused _ _ _ _ c.in_err-turn.field-0.0 c.turns.invariant c.tick.ensures.only c.turns-test.ensures c.in_err-turn.ensures.turned);
      counts = rw p.1 (refused_counts _ _ _ _ _ c.tick.ensures.only c.turns.invariant c.turn.ensures.steady.counts c.turn.ensures.steady.stays c.tick.ensures.counts);
      cost = search rules;
      settings = search rules;
    }

pub returns-in_err-turn-clause-only : goal.returns-in_err-turn-clause-only
returns-in_err-turn-clause-only c = accepted c.from_residual.result _ _ (returns-in_err-turn-clause-reads c).exact

pub returns-in-Some-clause-reads : goal.returns-in-Some-clause-reads
returns-in-Some-clause-reads c =
    record {
      exact = ((λ n. reads_nothing_listed _ (left_pending _ _ _ _ c.turns.invariant c.in-Some.is c.turns-test.ensures.1)), (λ m. absurd (cc)));
      counts = search rules;
      cost = search rules;
      settings = search rules;
    }

pub returns-in-Some-clause-only : goal.returns-in-Some-clause-only
returns-in-Some-clause-only c = λ xs r l e. absurd (left_pending _ _ _ _ c.turns.invariant c.in-Some.is c.turns-test.ensures.1 xs r l e)

pub returns-clause-listed : goal.returns-clause-listed
returns-clause-listed c =
    let w = (listed _ _ _ c.turns.invariant c.turns-test.ensures.0 c.in-None.is c.turns-test.ensures.1).0 in
    record {
      items = w.items;
      listed = w.listed;
      ended = w.ended;
      value = rw c.shrink_to_fit.ensures.items w.value;
      turned = w.turned;
      peak = w.peak;
      held = w.held;
    }

pub returns-clause-reads : goal.returns-clause-reads
returns-clause-reads c =
    record {
      exact = found _ _ _ (returns-clause-listed c);
      counts = search rules;
      cost = search rules;
      settings = search rules;
    }

pub returns-clause-only : goal.returns-clause-only
returns-clause-only c =
    let out = c.turns.reader.out in
    accepted (Ok record { instrs = c.shrink_to_fit.new.self; branch_hints = out.branch_hints; instr_spans = out.instr_spans }) _ c.turns.parser.left (returns-clause-reads c).exact

pub returns-clause-spans : goal.returns-clause-spans
returns-clause-spans c =
    let tracks = c.args.parser.now.tracks in
    subst {0, 0} (λ xs. elim c.turns.reader.out.instr_spans [ Some v ↦ (tracks ≡ true) × (length v.items ≡ length xs) | None ↦ tracks ≡ false ]) (sym c.shrink_to_fit.ensures.items) (listed _ _ _ c.turns.invariant c.turns-test.ensures.0 c.in-None.is c.turns-test.ensures.1).1

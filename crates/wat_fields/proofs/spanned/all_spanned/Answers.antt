use Rattle.std.proofs.Common.{rules, ap, subst, ◌≡◌, Bool, not, ◌∷◌, [], ◌++◌, map, sym, ◌∙◌}
use Rattle.std.proofs.lemmas.Result.{err_from_is_err_and}
use Rattle.std.proofs.lemmas.List.Elements.{All-push, All-nil}
use Rattle.wat_fields.specs.Prelude.{map_push, Error, more}
use Rattle.wat_tokens.specs.Laws.Cost.{costs_then, quiet_costs}
use Rattle.wat_tokens.specs.Laws.Loops.{front_of_none, loop_goes_on, loop_ends, loop_fails, not_heapless}
use Rattle.wat_tokens.specs.Laws.Refuses.{refused_read}
use Rattle.wat_fields.proofs.spanned.all_spanned.Goals as goal

pub values-init : goal.values-init
values-init g c =
    record {
      exact = rw c.new-found.ensures.items (front_of_none _);
      counts = search rules;
      turned = search rules;
      cost = search (rules, costs_then, quiet_costs);
      settings = search rules;
      spans = rw c.new-found.ensures.items (All-nil (g.S.Spanned.keeps c.args.parser.now.tracks));
    }

pub values-preserved : goal.values-preserved
values-preserved g c =
    let v = c.in_ok-take.field-0 in
    let e : map g.S.Spanned.view.of c.push.new.self.items ≡ map g.S.Spanned.view.of c.values.found.items ++ g.S.Spanned.view.of v ∷ [] = rw c.in_ok-push.ensures.items (map_push _ c.values.found.items v) in
    record {
      exact = rw e (sym (loop_goes_on more g.S.Spanned.grammar c.requires (map g.S.Spanned.view.of c.values.found.items) c.values.parser.left (g.S.Spanned.view.of v) c.take.new.parser.left (ap not (sym c.is_empty.ensures ∙ c.values-test.true)) c.in_ok-take.ensures.reads.exact) ∙ c.values.invariant.exact);
      counts = search rules;
      turned = search rules;
      cost = search (rules, costs_then, quiet_costs);
      settings = search rules;
      spans = rw c.in_ok-push.ensures.items (All-push (g.S.Spanned.keeps c.args.parser.now.tracks) c.values.found.items v c.values.invariant.spans (subst (λ (k : Bool). g.S.Spanned.keeps k v) c.values.invariant.settings.1 c.in_ok-take.ensures.spans));
    }

pub returns-clause-reads : goal.returns-clause-reads
returns-clause-reads g c =
    record {
      exact = rw c.shrink_to_fit.ensures.items (sym c.values.invariant.exact ∙ loop_ends more g.S.Spanned.grammar (map g.S.Spanned.view.of c.values.found.items) c.values.parser.left (ap not (sym c.is_empty.ensures ∙ c.values-test.false)));
      counts = search rules;
      cost = search (rules, costs_then, quiet_costs);
      settings = search rules;
    }

pub returns-clause-spans : goal.returns-clause-spans
returns-clause-spans g c = rw c.shrink_to_fit.ensures.items c.values.invariant.spans

pub returns-in_err-take-clause-reads : goal.returns-in_err-take-clause-reads
returns-in_err-take-clause-reads g c =
    let begun = ap not (sym c.is_empty.ensures ∙ c.values-test.true) in
    let p = err_from_is_err_and c.from_residual.result c.from_residual.ensures.1 in
    record {
      exact = rw (p.1, p.2) ((λ no. sym c.values.invariant.exact ∙ loop_fails more g.S.Spanned.grammar (map g.S.Spanned.view.of c.values.found.items) c.values.parser.left begun (refused_read g.S.Spanned.view.may_use_heap g.S.Spanned.view.heapless _ _ c.in_err-take.ensures.reads.exact no)), (λ m. (not_heapless more g.S.Spanned.grammar (map g.S.Spanned.view.of c.values.found.items) c.values.parser.left _ begun c.values.invariant.exact)));
      counts = search rules;
      cost = search (rules, costs_then, quiet_costs);
      settings = search rules;
    }

pub returns-in_err-push-clause-reads : goal.returns-in_err-push-clause-reads
returns-in_err-push-clause-reads g c =
    let begun = ap not (sym c.is_empty.ensures ∙ c.values-test.true) in
    let p = err_from_is_err_and c.from_residual-in_err-push.result c.from_residual-in_err-push.ensures.1 in
    record {
      exact = rw p.1 ((λ no. absurd (no (ap (λ (e : Error). e.fault) p.2))), (λ m. (not_heapless more g.S.Spanned.grammar (map g.S.Spanned.view.of c.values.found.items) c.values.parser.left _ begun c.values.invariant.exact)));
      counts = search rules;
      cost = search (rules, costs_then, quiet_costs);
      settings = search rules;
    }

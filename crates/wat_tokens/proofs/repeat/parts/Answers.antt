use Rattle.std.proofs.Common.{rules, ap, ◌≡◌, ◌∷◌, [], ◌++◌, map, sym, ◌∙◌}
use Rattle.std.proofs.lemmas.Result.{err_from_is_err_and}
use Rattle.wat_tokens.specs.Laws.Prelude.{map_push, costs_then, quiet_costs, Error, extends_then, loop_goes_on, loop_ends, loop_fails, not_heapless, refused_read}
use Rattle.wat_tokens.specs.Laws.Filled.{extends_is}
use Rattle.wat_tokens.proofs.repeat.parts.Goals as goal

pub parts-preserved : goal.parts-preserved
parts-preserved g c =
    let v = c.in_ok-take.field-0 in
    let e : map g.P.Part.view.of c.push_into.new.list.items ≡ map g.P.Part.view.of c.parts.out.items ++ g.P.Part.view.of v ∷ [] = rw c.in_ok-push_into.ensures (map_push _ c.parts.out.items v) in
    record {
      exact = rw e (sym (loop_goes_on g.P.Part.follows g.P.Part.grammar c.requires (map g.P.Part.view.of c.parts.out.items) c.parts.parser.left (g.P.Part.view.of v) c.take.new.parser.left (sym c.follows.ensures ∙ c.parts-test.true) c.in_ok-take.ensures.reads.exact) ∙ c.parts.invariant.exact);
      counts = search rules;
      turned = search rules;
      cost = search (rules, costs_then, quiet_costs);
      settings = search rules;
      kept = extends_then _ _ _ c.parts.invariant.kept (v ∷ [], c.in_ok-push_into.ensures);
    }

pub returns : goal.returns
returns g c = record {
  reads = record {
    exact = sym c.parts.invariant.exact ∙ loop_ends g.P.Part.follows g.P.Part.grammar (map g.P.Part.view.of c.parts.out.items) c.parts.parser.left (sym c.follows.ensures ∙ c.parts-test.false);
    counts = search rules;
    cost = search (rules, costs_then, quiet_costs);
    settings = search rules;
  };
  kept = c.parts.invariant.kept;
}

pub returns-in_err-take : goal.returns-in_err-take
returns-in_err-take g c =
    let begun = sym c.follows.ensures ∙ c.parts-test.true in
    let p = err_from_is_err_and c.from_residual.result c.from_residual.ensures.1 in
    record {
      reads = record {
        exact = rw (p.1, p.2) ((λ not. sym c.parts.invariant.exact ∙ loop_fails g.P.Part.follows g.P.Part.grammar (map g.P.Part.view.of c.parts.out.items) c.parts.parser.left begun (refused_read g.P.Part.view.may_use_heap g.P.Part.view.heapless _ _ c.in_err-take.ensures.reads.exact not)), (λ m. (not_heapless g.P.Part.follows g.P.Part.grammar (map g.P.Part.view.of c.parts.out.items) c.parts.parser.left _ begun c.parts.invariant.exact)));
        counts = search rules;
        cost = search (rules, costs_then, quiet_costs);
        settings = search rules;
      };
      kept = c.parts.invariant.kept;
    }

pub returns-in_err-push_into : goal.returns-in_err-push_into
returns-in_err-push_into g c =
    let p = err_from_is_err_and c.from_residual-in_err-push_into.result c.from_residual-in_err-push_into.ensures.1 in
    record {
      reads = record {
        exact = rw p.1 ((λ not. absurd (not (ap (λ (e : Error). e.fault) p.2 ∙ c.in_err-push_into.ensures.0))), (λ m. (not_heapless g.P.Part.follows g.P.Part.grammar (map g.P.Part.view.of c.parts.out.items) c.parts.parser.left _ (sym c.follows.ensures ∙ c.parts-test.true) c.parts.invariant.exact)));
        counts = search rules;
        cost = search (rules, costs_then, quiet_costs);
        settings = search rules;
      };
      kept = extends_is _ _ _ c.parts.invariant.kept c.in_err-push_into.ensures.1;
    }

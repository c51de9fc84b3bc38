use Rattle.std.proofs.Common.{rules, ◌≡◌, refl, sym, ap, ◌∙◌}
use Rattle.std.proofs.lemmas.Result.{err_from_is_err_and}
use Rattle.wat_types.specs.Prelude.{add_rest, adding_goes_on, adding_fails, FunctionTypeModel, empty_function, func_group, group_follows, func_group_consumes, add, function_view, func_groups}
use Rattle.wat_tokens.specs.Laws.Many.{adding_ends, adding_takes}
use Rattle.wat_types.proofs.FunctionFront.{function_begins_at}
use Rattle.wat_types.proofs.FunctionGroups.{groups_not_heapless}
use Rattle.wat_types.proofs.function.read_groups.Goals as goal

pub groups-init : goal.groups-init
groups-init c =
    let e : function_view c.empty-found.result ≡ empty_function = rw (c.empty-found.ensures.params, c.empty-found.ensures.results) refl in
    record {
      exact = ap (λ (u : FunctionTypeModel). add_rest add u ((func_groups c.args.labels).reads c.args.parser.now.left)) e ∙ function_begins_at c.args.labels c.args.parser.now.left;
      counts = search rules;
      turned = search rules;
      cost = search rules;
      settings = search rules;
    }

pub groups-smaller : goal.groups-smaller
groups-smaller c = adding_takes add group_follows (func_group c.args.labels) (func_group_consumes c.args.labels) (function_view c.groups.found) c.groups.parser.left (function_view c.read_group.new.out) c.read_group.new.parser.left c.in_ok-read_group.ensures.reads.exact

pub groups-preserved : goal.groups-preserved
unfolding func_groups
groups-preserved c = record {
  exact = sym (adding_goes_on add group_follows (func_group c.args.labels) (func_group_consumes c.args.labels) (function_view c.groups.found) c.groups.parser.left (function_view c.read_group.new.out) c.read_group.new.parser.left (sym c.group_next.ensures ∙ c.groups-test.true) c.in_ok-read_group.ensures.reads.exact) ∙ c.groups.invariant.exact;
  counts = search rules;
  turned = search rules;
  cost = search rules;
  settings = search rules;
}

pub returns-in_err-read_group : goal.returns-in_err-read_group
unfolding func_groups
returns-in_err-read_group c =
    let begun = sym c.group_next.ensures ∙ c.groups-test.true in
    let p = err_from_is_err_and c.from_residual.result c.from_residual.ensures.1 in
    record {
      reads = record {
        exact = rw (p.1, p.2) ((λ not. sym c.groups.invariant.exact ∙ adding_fails add group_follows (func_group c.args.labels) (func_group_consumes c.args.labels) (function_view c.groups.found) c.groups.parser.left begun (c.in_err-read_group.ensures.reads.exact.0 not)), (λ m. groups_not_heapless c.args.labels (function_view c.groups.found) c.groups.parser.left _ begun (c.in_err-read_group.ensures.reads.exact.1 m) c.groups.invariant.exact));
        counts = search rules;
        cost = search rules;
        settings = search rules;
      };
    }

pub returns : goal.returns
unfolding func_groups
returns c = record {
  reads = record {
    exact = rw (c.shrink_to_fit.ensures.items, c.shrink_to_fit-2.ensures.items) (sym c.groups.invariant.exact ∙ adding_ends add group_follows (func_group c.args.labels) (func_group_consumes c.args.labels) (function_view c.groups.found) c.groups.parser.left (sym c.group_next.ensures ∙ c.groups-test.false));
    counts = search rules;
    cost = search rules;
    settings = search rules;
  };
}

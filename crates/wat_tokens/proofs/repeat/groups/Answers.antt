use Rattle.std.proofs.Common.{rules, map, sym, ◌∙◌}
use Rattle.std.proofs.lemmas.Result.{err_from_is_err_and}
use Rattle.wat_tokens.specs.Laws.Prelude.{costs_then, quiet_costs, join, extends_then, adding_goes_on, adding_ends, adding_fails, adding_takes}
use Rattle.wat_tokens.proofs.Joined.{joined_not_heapless}
use Rattle.wat_tokens.proofs.repeat.groups.Goals as goal

pub groups-smaller : goal.groups-smaller
groups-smaller g c = adding_takes join g.G.Group.follows g.G.Group.grammar c.requires (map g.G.Group.view.of c.groups.out.items) c.groups.parser.left (map g.G.Group.view.of c.take.new.out.items) c.take.new.parser.left c.in_ok-take.ensures.reads.exact

pub groups-preserved : goal.groups-preserved
groups-preserved g c = record {
  exact = sym (adding_goes_on join g.G.Group.follows g.G.Group.grammar c.requires (map g.G.Group.view.of c.groups.out.items) c.groups.parser.left (map g.G.Group.view.of c.take.new.out.items) c.take.new.parser.left (sym c.follows.ensures ∙ c.groups-test.true) c.in_ok-take.ensures.reads.exact) ∙ c.groups.invariant.exact;
  counts = search rules;
  turned = search rules;
  cost = search (rules, costs_then, quiet_costs);
  settings = search rules;
  kept = extends_then _ _ _ c.groups.invariant.kept c.in_ok-take.ensures.kept;
}

pub returns : goal.returns
returns g c = record {
  reads = record {
    exact = sym c.groups.invariant.exact ∙ adding_ends join g.G.Group.follows g.G.Group.grammar c.requires (map g.G.Group.view.of c.groups.out.items) c.groups.parser.left (sym c.follows.ensures ∙ c.groups-test.false);
    counts = search rules;
    cost = search (rules, costs_then, quiet_costs);
    settings = search rules;
  };
  kept = c.groups.invariant.kept;
}

pub returns-in_err-take : goal.returns-in_err-take
returns-in_err-take g c =
    let begun = sym c.follows.ensures ∙ c.groups-test.true in
    let p = err_from_is_err_and c.from_residual.result c.from_residual.ensures.1 in
    let before = map g.G.Group.view.of c.groups.out.items in
    record {
      reads = record {
        exact = rw (p.1, p.2) ((λ not. sym c.groups.invariant.exact ∙ adding_fails join g.G.Group.follows g.G.Group.grammar c.requires before c.groups.parser.left begun (c.in_err-take.ensures.reads.exact.0 not)), (λ m. (joined_not_heapless g.G.Group.follows g.G.Group.grammar c.requires before c.groups.parser.left _ begun (c.in_err-take.ensures.reads.exact.1 m) c.groups.invariant.exact)));
        counts = search rules;
        cost = search (rules, costs_then, quiet_costs);
        settings = search rules;
      };
      kept = extends_then _ _ _ c.groups.invariant.kept c.in_err-take.ensures.kept;
    }

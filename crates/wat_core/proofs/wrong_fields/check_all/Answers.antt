use Rattle.std.proofs.Common.{[], ◌∷◌, ◌++◌, arith, length, subst, sym}
use Rattle.wat_core.specs.Prelude.{State, GroupsTo}
use Rattle.wat_core.proofs.Telling.{tells_none, before_none, before_more, before_ends}
use Rattle.wat_core.proofs.wrong_fields.check_all.Goals as goal

pub groups-init : goal.groups-init
groups-init g c = record {
  within = c.requires.within;
  few = omega (arith, c.none-found.ensures.groups);
  order = omega (arith, c.none-found.ensures.groups, c.none-found.ensures.count);
  told = ([], before_none (length c.args.text.now) c.args.parser.now.rest, tells_none c.args.most c.none-found.result c.none-found.ensures.groups c.none-found.ensures.count c.none-found.ensures.faults);
}

pub groups-preserved : goal.groups-preserved
groups-preserved g c =
    let (gs, before, told) = c.groups.invariant.told in
    let (next, part, less) = c.in-Some.ensures.next in record {
      within = c.in-Some.ensures.within;
      few = omega (arith, less, c.groups.invariant.few, c.in-Ok.ensures.groups);
      order = c.in-Ok.ensures.order;
      told = (gs ++ c.in-Some.group ∷ [], before_more {ts = c.args.parser.now.rest} c.in-Some.group c.next_group.new.parser.rest before next, c.in-Ok.ensures.tells gs told);
    }

pub returns-in-None-clause-found : goal.returns-in-None-clause-found
returns-in-None-clause-found g c =
    let (gs, before, told) = c.groups.invariant.told in
    let (ends, same) = c.in-None.ensures.next in
    (gs, subst (λ (p : State). GroupsTo (length c.args.text.now) c.args.parser.now.rest gs p.rest) (sym same) (before_ends before ends), told)

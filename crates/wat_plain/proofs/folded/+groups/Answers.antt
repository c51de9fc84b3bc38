use Rattle.std.proofs.Common.{sym, subst}
use Rattle.wat_expr.specs.Prelude.{Groups, Read}
use Rattle.wat_plain.specs.Found.{FindsGroups}
use Rattle.wat_plain.proofs.FoldedGroups.{groups_at_zero, groups_at_end, groups_at_open}
use Rattle.wat_plain.proofs.folded.+groups.Goals as goal

pub read_groups-returns-then-most-eq0 : goal.read_groups-returns-then-most-eq0
read_groups-returns-then-most-eq0 t c =
    groups_at_zero c.args.most c.args.parser.now.left c.if-most-eq0.true

pub read_groups-returns-then-not-take_open : goal.read_groups-returns-then-not-take_open
read_groups-returns-then-not-take_open t c =
    let left = c.take_open.new.parser.left in
    subst (λ (x : Read Groups). FindsGroups c.keep_groups.result x left)
    (sym (groups_at_end c.args.most c.args.parser.now.left left c.if-most-eq0.false
    c.if-not-take_open.ensures.stands c.if-not-take_open.ensures.left))
    (c.keep_groups.ensures left)

pub read_groups-returns : goal.read_groups-returns
read_groups-returns t c =
    subst (λ (x : Read Groups). FindsGroups c.read_group.result x c.read_group.new.parser.left)
    (sym (groups_at_open c.args.most c.args.parser.now.left c.take_open.new.parser.left
    c.if-most-eq0.false c.if-not-take_open.ensures.stands c.if-not-take_open.ensures.left))
    c.read_group.ensures

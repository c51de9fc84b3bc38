use Rattle.std.proofs.Common.{sym, subst}
use Rattle.wat_plain.specs.Prelude.{Read, Items, items_at}
use Rattle.wat_plain.specs.Found.{Finds}
use Rattle.wat_plain.proofs.Parts.{items_at_zero, items_at_next, list_open}
use Rattle.wat_plain.proofs.reading.+reading.Goals as goal

pub read_at-returns-then-most-eq0 : goal.read_at-returns-then-most-eq0
read_at-returns-then-most-eq0 t c =
    items_at_zero c.args.most c.args.parser.now.left c.if-most-eq0.true

pub read_at-returns : goal.read_at-returns
read_at-returns t c =
    subst (λ (x : Read Items). Finds c.read_list.result x c.read_list.new.parser.left)
    (sym (items_at_next c.args.most c.args.parser.now.left c.if-most-eq0.false))
    c.read_list.ensures

pub read_list-returns-then-take_open : goal.read_list-returns-then-take_open
read_list-returns-then-take_open t c =
    subst (λ (x : Read Items). Finds c.read_group.result x c.read_group.new.parser.left)
    (sym (list_open (items_at c.args.most) c.args.parser.now.left c.take_open.new.parser.left
    c.if-take_open.ensures.stands c.if-take_open.ensures.left c.if-group_is.ensures
    c.if-annotation_is.ensures))
    c.read_group.ensures

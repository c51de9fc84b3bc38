use Rattle.std.proofs.Common.{rules, ◌≢◌}
use Rattle.wat_print.specs.Laws.Prelude.{may_break, NoneSpells, on_one_line, reads_back, unspelled}
use Rattle.wat_print.specs.declared.fault.Refused.TheVariants.{Memory}
use Rattle.wat_print.proofs.printed.print.Goals as goal

pub returns-clause-reads_back : goal.returns-clause-reads_back
returns-clause-reads_back g c =
    let p = g.T.Print.printing in
    let v = g.T.Print.view c.args.value.now in
    let fits = c.in_ok-write.ensures.printable in
    reads_back g.T.Print.grammar v (p.spell v) (may_break c.args.layout) c.new-out.result
    c.write.new.out _ (p.well_formed v fits) (p.spells v fits) c.new-out.ensures
    c.in_ok-write.ensures.written c.into_text.ensures

pub returns-clause-line : goal.returns-clause-line
returns-clause-line g c e =
    on_one_line c.args.layout (g.T.Print.printing.spell (g.T.Print.view c.args.value.now))
    c.new-out.result c.write.new.out _ e c.new-out.ensures c.in_ok-write.ensures.written
    c.into_text.ensures

pub returns-in_err-write-clause-refused : goal.returns-in_err-write-clause-refused
returns-in_err-write-clause-refused g c =
    let p = g.T.Print.printing in
    let v = g.T.Print.view c.args.value.now in
    let h : c.in_err-write.field-0.0 ≢ Memory → NoneSpells g.T.Print.grammar v =
    λ n. unspelled g.T.Print.grammar v (p.printable v) (c.in_err-write.ensures.refused n)
    (p.only v) in
    search (rules, h)

use Rattle.std.proofs.Common.{◌+◌, [], refl, ap, sym, ◌++◌}
use Rattle.std.proofs.KnownBytes.{Appends-nil, Appends-trans}
use Rattle.std.specs.String.{string_bytes}
use Rattle.wat.specs.Runs.{none}
use Rattle.wat.proofs.Answering.{on_err_always, part_of_more, answers_more}
use Rattle.wat.proofs.run.run.Goals as goal

pub loop-name-init : goal.loop-name-init
loop-name-init g c = (refl, ([], none, Appends-nil (g.W.Write.contents c.args.writer.now.inner)))

pub returns-in_err-status-clause-part : goal.returns-in_err-status-clause-part
returns-in_err-status-clause-part g c =
    let (out, before, whole) = c.loop-name.invariant.1 in
    let (output, own, next, part) = c.in_err-status.ensures.part in
    on_err_always c.from_residual.result (part_of_more g.J.Work.answers c.args.work.now c.loop-name.work c.run_on.new.work string_bytes c.args.names.now c.loop-name.name-index c.name-item.result _ _ _ out output c.loop-name.worst own c.loop-name-test.true before (rw (sym c.name-item.is, sym c.as_str.ensures.value) next) whole part)

pub loop-name-preserved : goal.loop-name-preserved
loop-name-preserved g c =
    let (out, before, whole) = c.loop-name.invariant.1 in
    let (output, next, added) = c.in_ok-status.ensures.all in
    (ap (λ n. n + 1) c.loop-name.invariant.0, (out ++ output, rw c.max-worst.ensures (answers_more g.J.Work.answers c.args.work.now c.loop-name.work c.run_on.new.work string_bytes c.args.names.now c.loop-name.name-index c.name-item.result out output c.loop-name.worst c.in_ok-status.status c.loop-name-test.true before (rw (sym c.name-item.is, sym c.as_str.ensures.value) next)), Appends-trans _ _ _ out output whole added))

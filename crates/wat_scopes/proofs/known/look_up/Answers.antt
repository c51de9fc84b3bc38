use Rattle.std.proofs.Common.{arith}
use Rattle.wat_scopes.proofs.Sets.{nowhere}
use Rattle.wat_scopes.proofs.FaultsAdded.{unknown_one}
use Rattle.wat_scopes.proofs.known.look_up.Goals as goal

pub loop-name-preserved : goal.loop-name-preserved
loop-name-preserved c = λ ns h.
    unknown_one c.args.known.now c.args.used.now c.loop-name.name-index nowhere _ c.loop-name.out.items c.add_if.new.out.items c.contains-is_known.result ns (omega arith) h c.contains-is_known.ensures c.in_ok-add_if.ensures (c.loop-name.invariant ns h)

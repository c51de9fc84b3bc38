use Rattle.std.proofs.Common.{arith}
use Rattle.wat_scopes.proofs.Sets.{added_one, nowhere}
use Rattle.wat_scopes.proofs.known.add_aliases.Goals as goal

pub loop-name-preserved : goal.loop-name-preserved
loop-name-preserved c = λ ns h.
    added_one c.loop-name.known c.insert.new.self c.args.aliases.now c.loop-name.name-index nowhere ns (omega arith) c.in_ok-insert.ensures.updates.0 (c.loop-name.invariant ns h)

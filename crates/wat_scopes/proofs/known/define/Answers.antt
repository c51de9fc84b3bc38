use Rattle.std.proofs.Common.{[], arith}
use Rattle.wat_scopes.proofs.Sets.{added_one, nowhere}
use Rattle.wat_scopes.proofs.FaultsAdded.{doubled_one}
use Rattle.wat_scopes.proofs.known.define.Goals as goal

pub loop-name-preserved : goal.loop-name-preserved
loop-name-preserved c = record {
  known = added_one c.loop-name.known c.insert.new.self c.args.defined.now c.loop-name.name-index nowhere [] (omega arith) c.in_ok-is_new.ensures.updates.0 c.loop-name.invariant.known;
  faults = doubled_one c.loop-name.known c.args.defined.now c.loop-name.name-index nowhere _ c.loop-name.out.items c.add_if.new.out.items c.in_ok-is_new.is_new (omega arith) c.loop-name.invariant.known c.in_ok-is_new.ensures.added c.in_ok-add_if.ensures c.loop-name.invariant.faults;
}

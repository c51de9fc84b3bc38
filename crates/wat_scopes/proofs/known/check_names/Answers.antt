use Rattle.std.proofs.Common.{◌++◌}
use Rattle.std.proofs.lemmas.Result.{on_ok_weaker}
use Rattle.wat_scopes.specs.Known.{names}
use Rattle.wat_scopes.proofs.NoFaults.{none_added}
use Rattle.wat_scopes.proofs.known.check_names.Goals as goal

pub returns-clause-none : goal.returns-clause-none
returns-clause-none c =
    on_ok_weaker c.look_up.result
    (λ h.
    none_added c.args.out.now.items c.define.new.out.items c.look_up.new.out.items c.args.defined.now c.args.used.now
    (names c.args.defined.now ++ names c.args.aliases.now) c.in_ok-known.ensures.faults
    (h (names c.args.defined.now ++ names c.args.aliases.now) (c.in_ok-add_aliases.ensures (names c.args.defined.now) c.in_ok-known.ensures.known)))
    c.look_up.ensures

use Rattle.std.specs.Prelude.{◌≡◌, ◌++◌, take}
use Rattle.wat_scopes.specs.Known.{names}
use Rattle.wat_fields.specs.Local.{locals_view}
use Rattle.wat_names.specs.Defined.{locals_names}
use Rattle.wat_names.proofs.defined.define_locals.Given as goal

abbrev pub invariant-loop-local : goal.invariant-loop-local
invariant-loop-local l = names l.out.items ≡ names l.fn.out.items ++ locals_names l.at (locals_view (take l.local-index l.locals))

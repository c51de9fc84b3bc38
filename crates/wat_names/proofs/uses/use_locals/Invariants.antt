use Rattle.std.specs.Prelude.{◌≡◌, ◌++◌, take}
use Rattle.wat_scopes.specs.Known.{names}
use Rattle.wat_fields.specs.Local.{locals_view}
use Rattle.wat_names.specs.Used.{locals_uses}
use Rattle.wat_names.proofs.uses.use_locals.Given as goal

abbrev pub invariant-loop-local : goal.invariant-loop-local
invariant-loop-local l = names l.out.items ≡ names l.fn.out.items ++ locals_uses (locals_view (take l.local-index l.locals))

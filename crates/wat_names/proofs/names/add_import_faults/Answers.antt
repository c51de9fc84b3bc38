use Rattle.std.proofs.lemmas.Result.{on_ok_weaker}
use Rattle.wat_names.proofs.Viewed.{late_added}
use Rattle.wat_names.proofs.names.add_import_faults.Goals as goal

pub returns : goal.returns
returns c =
    on_ok_weaker c.check_imports.result
    (λ h. late_added c.args.out.now.items c.check_imports.new.out.items c.args.marks.now h)
    c.check_imports.ensures

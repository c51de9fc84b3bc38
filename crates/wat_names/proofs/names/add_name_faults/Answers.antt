use Rattle.std.proofs.lemmas.Result.{on_ok_weaker}
use Rattle.wat_names.proofs.Viewed.{names_added}
use Rattle.wat_names.proofs.names.add_name_faults.Goals as goal

pub returns : goal.returns
returns c =
    on_ok_weaker c.check_names.result
    (λ h. names_added c.args.out.now.items c.check_names.new.out.items c.args.known.now c.args.others.now c.args.used.now h)
    c.check_names.ensures.faults

use Rattle.std.proofs.Common.{◌≡◌, length, arith}
use Rattle.wat_core.specs.Prelude.{module_view}
use Rattle.wat_names.specs.Names.{faults_in}
use Rattle.wat_names.proofs.Exact.{exact}
use Rattle.wat_names.proofs.Returned.{counted, returned}
use Rattle.wat_names.proofs.names.name_faults.Goals as goal

pub returns-clause-exact : goal.returns-clause-exact
returns-clause-exact c =
    let all = faults_in (module_view c.args.«module».now) in
    let l : c.len-count.result ≡ length c.in_ok-faults.faults.items = omega (arith, c.in_ok-faults.faults.ok.0) in
    exact (module_view c.args.«module».now) c.len-count.result (counted all c.in_ok-faults.faults.items c.len-count.result c.in_ok-faults.ensures l)

pub returns-clause-faults : goal.returns-clause-faults
returns-clause-faults c =
    let all = faults_in (module_view c.args.«module».now) in
    let l : c.len-count.result ≡ length c.in_ok-faults.faults.items = omega (arith, c.in_ok-faults.faults.ok.0) in
    returned all c.args.most _ c.in_ok-faults.faults.items c.sort_by_key.new.self.items c.in_ok-faults.ensures c.sort_by_key.ensures.permutation c.truncate.ensures.items l

use Rattle.std.proofs.Common.{subst, IsTrue, string_bytes}
use Rattle.wat.specs.Directories.{are_wanted, is_wanted}
use Rattle.wat.specs.declared.directory.Wanted.{Wanted}
use Rattle.wat.proofs.Words.{all_moved}
use Rattle.wat.proofs.directory.files_below.Goals as goal

-- sorting only moves the paths
pub returns-clause-wanted : goal.returns-clause-wanted
returns-clause-wanted g c =
    let found = c.read_all.new.self.found.items in
    all_moved (λ path. is_wanted c.args.wanted (string_bytes path)) found c.sort_unstable.new.self.items c.sort_unstable.ensures.permutation (subst (λ (wanted : Wanted). IsTrue (are_wanted wanted found)) c.read_all.ensures c.read_all.new.self.wanted_alone)

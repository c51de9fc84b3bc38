use Rattle.std.proofs.Common.{◌∙◌, ap, ◌++◌, List, ℕ}
use Rattle.std.proofs.lemmas.Result.{err_from_is_err_and}
use Rattle.wat_core.specs.Module.{module_view}
use Rattle.wat_example.specs.Listing.{module_lines}
use Rattle.wat_example.proofs.exported.Goals as goal

pub returns-in_err-module-clause-only : goal.returns-in_err-module-clause-only
returns-in_err-module-clause-only c =
    let p = err_from_is_err_and c.from_residual.result c.from_residual.ensures.1 in
    λ m spells. rw (p.1, p.2) (c.in_err-module.ensures.only m spells)

pub returns-clause-only : goal.returns-clause-only
returns-clause-only c =
    let here = module_lines (module_view c.in_ok-module.module) in
    λ m spells. c.in_ok-add_module.ensures ∙ ap (λ (l : List ℕ). l ++ here) c.new-out.ensures.bytes ∙ ap module_lines (c.in_ok-module.ensures.only m spells)

use Rattle.std.proofs.Common.{◌∙◌, sym, ap, List}
use Rattle.wat_tokens.specs.Prelude.{offset_of}
use Rattle.wat_core.specs.Prelude.{Placed, shown}
use Rattle.wat_core.specs.ModuleHead.{place_of}
use Rattle.wat_core.proofs.Heads.{sees, none_behind, some_behind}
use Rattle.wat_core.proofs.module_head.unexpected.Goals as goal

pub returns-then-at_end-clause-place : goal.returns-then-at_end-clause-place
returns-then-at_end-clause-place c =
    let p = c.args.parser.now in
    let none = none_behind p.left (shown p.known p.rest) (sees p.known p.left p.rest c.requires) (sym c.at_end.ensures ∙ c.if-at_end.true) in
    c.fault_at.ensures.place ∙ ap (λ (ts : List Placed). place_of c.args.end ts) (sym none)

pub returns-clause-place : goal.returns-clause-place
returns-clause-place c =
    let p = c.args.parser.now in
    ap offset_of c.at.ensures.span ∙ some_behind p.left (shown p.known p.rest) _ c.args.end (sees p.known p.left p.rest c.requires) (sym c.at_end.ensures ∙ c.if-at_end.false) c.cur_span.ensures

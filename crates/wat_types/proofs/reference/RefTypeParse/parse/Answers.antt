use Rattle.std.proofs.Common.{rules, ◌≡◌, true, false, refl, codes}
use Rattle.std.proofs.lemmas.Result.{err_from_is_err_and}
use Rattle.wat_tokens.specs.Tests.{begins_lparen, begins_group}
use Rattle.wat_types.proofs.NoGroup.{shared_ref}
use Rattle.wat_types.proofs.reference.RefTypeParse.parse.Goals as goal

pub returns-in_err-shorthand : goal.returns-in_err-shorthand
returns-in_err-shorthand c =
    let p = err_from_is_err_and c.from_residual-in_err-shorthand.result c.from_residual-in_err-shorthand.ensures.1 in
    let t = c.args.parser.now.left in
    let begun : begins_lparen t ≡ true = search rules in
    let no_ref : begins_group (codes "ref") t ≡ false = search rules in
    let e = shared_ref t begun no_ref in
    record { reads = record { exact = rw (p.1, p.2) (rw (e, c.in_err-shorthand.ensures.reads.exact.0) refl, c.in_err-shorthand.ensures.reads.exact.1); counts = search rules; cost = search rules; settings = search rules } }

use Rattle.std.proofs.Common.{rules, ◌≡◌, true, false, refl, codes}
use Rattle.std.proofs.lemmas.Result.{err_from_is_err_and}
use Rattle.wat_types.specs.Prelude.{begins_lparen, begins_group, begins_index}
use Rattle.wat_types.proofs.NoGroup.{shared_heap}
use Rattle.wat_types.proofs.heap.HeapTypeParse.parse.Goals as goal

pub returns-in_err-in_word_group-2 : goal.returns-in_err-in_word_group-2
returns-in_err-in_word_group-2 c =
    let p = err_from_is_err_and c.from_residual-in_err-in_word_group-2.result c.from_residual-in_err-in_word_group-2.ensures.1 in
    let t = c.args.parser.now.left in
    let begun : begins_lparen t ≡ true = search rules in
    let no_index : begins_index t ≡ false = search rules in
    let no_exact : begins_group (codes "exact") t ≡ false = search rules in
    let e = shared_heap t begun no_index no_exact in
    record { reads = record { exact = rw (p.1, p.2) (rw (e, c.in_err-in_word_group-2.ensures.reads.exact.0) refl, c.in_err-in_word_group-2.ensures.reads.exact.1); counts = search rules; cost = search rules; settings = search rules } }

use Rattle.std.proofs.Common.{rules, ◌≡◌, true, [], Some, codes, map}
use Rattle.std.proofs.lemmas.Result.{err_from_is_err_and}
use Rattle.wat_types.specs.Prelude.{begins_word, index_view, index, begins_index, after_front, many_reads}
use Rattle.wat_types.proofs.Definitions.{parents_fail, parents_not_heapless, sub_fails, sub_not_heapless, taken_word}
use Rattle.wat_types.proofs.define.TypeDefParse.parse.Goals as goal

pub returns-in_err-def : goal.returns-in_err-def
returns-in_err-def c =
    let t = c.args.parser.now.left in
    let ps = map index_view c.while_begun.new.out.items in
    let k : begins_word (codes "sub") t ≡ true = search rules in
    let g : after_front [] (many_reads begins_index index c.flag-is_final.new.self.left) ≡ Some (ps, c.while_begun.new.parser.left) = rw c.new-parents.ensures.items at c.in_ok-while_begun.ensures.reads.exact in
    let e = taken_word (codes "sub") t c.flag.new.self.left c.flag.result k c.flag.ensures.reads.exact in
    let p = err_from_is_err_and c.from_residual-in_err-def.result c.from_residual-in_err-def.ensures.1 in
    record { reads = record { exact = rw (p.1, p.2) ((λ not. sub_fails c.flag-is_final.result ps t c.flag.new.self.left c.flag-is_final.new.self.left c.while_begun.new.parser.left k e c.flag-is_final.ensures.reads.exact g (c.in_err-def.ensures.reads.exact.0 not)), (λ m. sub_not_heapless c.flag-is_final.result ps t c.flag.new.self.left c.flag-is_final.new.self.left c.while_begun.new.parser.left k e c.flag-is_final.ensures.reads.exact g (c.in_err-def.ensures.reads.exact.1 m))); counts = search rules; cost = search rules; settings = search rules } }

pub returns-in_err-while_begun : goal.returns-in_err-while_begun
returns-in_err-while_begun c =
    let t = c.args.parser.now.left in
    let k : begins_word (codes "sub") t ≡ true = search rules in
    let e = taken_word (codes "sub") t c.flag.new.self.left c.flag.result k c.flag.ensures.reads.exact in
    let f = c.flag-is_final.ensures.reads.exact in
    let g = rw c.new-parents.ensures.items at c.in_err-while_begun.ensures.reads.exact in
    let p = err_from_is_err_and c.from_residual-in_err-while_begun.result c.from_residual-in_err-while_begun.ensures.1 in
    record { reads = record { exact = rw (p.1, p.2) ((λ not. parents_fail c.flag-is_final.result t c.flag.new.self.left c.flag-is_final.new.self.left k e f (g.0 not)), (λ m. parents_not_heapless c.flag-is_final.result t c.flag.new.self.left c.flag-is_final.new.self.left k e f (g.1 m))); counts = search rules; cost = search rules; settings = search rules } }

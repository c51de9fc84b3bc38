use Rattle.std.proofs.Common.{List, [], ◌∷◌, map, ap, sym, ◌∙◌, rules}
use Rattle.std.proofs.lemmas.Result.{err_from_is_err_and}
use Rattle.wat_operands.specs.Prelude.{map-append, IndexModel, index_view, some_of}
use Rattle.wat_tokens.specs.Error.{Error}
use Rattle.wat_operands.proofs.Labels.{first_fails, first_only, last_is_default, others_fail, not_heapless}
use Rattle.wat_operands.proofs.branch.BrTableIndicesParse.parse.Goals as goal

pub returns-in_err-first : goal.returns-in_err-first
returns-in_err-first c =
    let p = err_from_is_err_and c.from_residual.result c.from_residual.ensures.1 in
    let q = c.in_err-first.ensures.reads.exact in
    record { reads = record { exact = rw (p.1, p.2) ((λ not. first_fails c.args.parser.now.left q.0), (λ m. absurd (q.1 m))); counts = search rules; cost = search rules; settings = search rules } }

pub returns-then-not-peek : goal.returns-then-not-peek
returns-then-not-peek c =
    record { reads = record { exact = rw c.new-labels.ensures.items (first_only c.args.parser.now.left c.parse.new.parser.left (index_view c.in_ok-first.first) c.in_ok-first.ensures.reads.exact (sym c.peek.ensures ∙ c.if-not-peek.true)); counts = search rules; cost = search rules; settings = search rules } }

pub returns-in_err-push : goal.returns-in_err-push
returns-in_err-push c =
    let p = err_from_is_err_and c.from_residual-in_err-push.result c.from_residual-in_err-push.ensures.1 in
    record { reads = record { exact = rw p.1 ((λ not. absurd (not (ap (λ (e : Error). e.fault) p.2))), (λ m. (not_heapless c.args.parser.now.left c.parse.new.parser.left (index_view c.in_ok-first.first) c.in_ok-first.ensures.reads.exact (sym c.peek.ensures ∙ c.if-not-peek.false)))); counts = search rules; cost = search rules; settings = search rules } }

pub returns-in_err-while_begun : goal.returns-in_err-while_begun
returns-in_err-while_begun c =
    let t = c.args.parser.now.left in
    let t1 = c.parse.new.parser.left in
    let i = index_view c.in_ok-first.first in
    let p = err_from_is_err_and c.from_residual-in_err-while_begun.result c.from_residual-in_err-while_begun.ensures.1 in
    let q = rw (c.in_ok-push.ensures.items, c.new-labels.ensures.items) at c.in_err-while_begun.ensures.reads.exact in
    record { reads = record { exact = rw (p.1, p.2) ((λ not. others_fail t t1 i c.in_ok-first.ensures.reads.exact (q.0 not)), (λ m. (not_heapless t t1 i c.in_ok-first.ensures.reads.exact (sym c.peek.ensures ∙ c.if-not-peek.false)))); counts = search rules; cost = search rules; settings = search rules } }

pub returns : goal.returns
returns c =
    let ls = c.take_last-default.new.indices.items in
    let d = c.take_last-default.result in
    let t2 = c.while_begun.new.parser.left in
    let read = rw (c.in_ok-push.ensures.items, c.new-labels.ensures.items) at c.in_ok-while_begun.ensures.reads.exact in
    let whole = ap (map index_view) c.take_last-default.ensures ∙ map-append index_view ls (d ∷ []) in
    record { reads = record { exact = last_is_default c.args.parser.now.left c.parse.new.parser.left (index_view c.in_ok-first.first) (map index_view ls) (index_view d) t2 c.in_ok-first.ensures.reads.exact (read ∙ ap (λ (u : List IndexModel). some_of (u, t2)) whole); counts = search rules; cost = search rules; settings = search rules } }

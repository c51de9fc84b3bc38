use Rattle.std.proofs.Common.{rules, ◌≡◌, ap, ◌∙◌}
use Rattle.std.proofs.lemmas.Result.{err_from_is_err_and}
use Rattle.wat_fields.specs.Prelude.{some_of, instruction_view, ExpressionModel, expression_view, head_behind}
use Rattle.wat_fields.proofs.Heads.{head_read, put_view, never_heapless}
use Rattle.wat_fields.proofs.Spans.{put_behind, put_alone}
use Rattle.wat_fields.proofs.offset.read_head_last.Goals.{then-is_empty+in-Some-1, then-is_empty+in-None-1, else-is_empty}
use Rattle.wat_fields.proofs.offset.read_head_last.Goals as goal

pub returns-clause-spans : goal.returns-clause-spans
returns-clause-spans c =
    let x = c.in_ok-head.offset in
    let y = c.put_last.new.self in
    let e = c.in_ok-put_last.ensures in
    elim c.if-is_empty.branch [
      | then-is_empty+in-Some-1 w ↦ put_alone c.args.parser.now.tracks _ _ _ x.instrs.items y.instrs.items y.instr_spans x.instrs.ok.0 c.is_empty.ensures w.if-is_empty.true (rw w.offset-is at e.spans) (rw w.offset-is at e.instrs)
      | then-is_empty+in-None-1 w ↦ put_alone c.args.parser.now.tracks _ _ _ x.instrs.items y.instrs.items y.instr_spans x.instrs.ok.0 c.is_empty.ensures w.if-is_empty.true (rw w.offset-is at e.spans) (rw w.offset-is at e.instrs)
      | else-is_empty w ↦ put_behind c.args.parser.now.tracks _ _ _ _ x.instrs.items y.instrs.items x.instr_spans y.instr_spans x.instrs.ok.0 c.is_empty.ensures w.if-is_empty.false c.in_ok-head.ensures.spans (rw w.offset-is at e.spans) (rw w.offset-is at e.instrs)
    ]

pub returns-in_err-put_last-clause-reads : goal.returns-in_err-put_last-clause-reads
returns-in_err-put_last-clause-reads c =
    let p = err_from_is_err_and c.from_residual-in_err-put_last.result c.from_residual-in_err-put_last.ensures.1 in
    record {
      exact = rw (p.1, p.2) ((λ not. absurd (not c.in_err-put_last.ensures.memory)), (λ m. never_heapless c.args.parser.now.left));
      counts = search rules;
      cost = search rules;
      settings = search rules;
    }

pub returns-clause-reads : goal.returns-clause-reads
returns-clause-reads c =
    let x = c.in_ok-head.offset in
    let y = c.put_last.new.self in
    let i = c.in_ok-head.head in
    let e = c.in_ok-put_last.ensures in
    let view : head_behind (instruction_view i) (expression_view x) ≡ expression_view y = elim c.if-is_empty.branch [
      | then-is_empty+in-Some-1 w ↦ put_view x y i (rw w.offset-is at e.instrs) (rw w.offset-is at e.hints)
      | then-is_empty+in-None-1 w ↦ put_view x y i (rw w.offset-is at e.instrs) (rw w.offset-is at e.hints)
      | else-is_empty w ↦ put_view x y i (rw w.offset-is at e.instrs) (rw w.offset-is at e.hints)
    ] in
    record {
      exact = head_read _ _ _ _ c.in_ok-head.ensures.reads.exact ∙ ap (λ (u : ExpressionModel). some_of (u, c.read_before_items.new.parser.left)) view;
      counts = search rules;
      cost = search rules;
      settings = search rules;
    }

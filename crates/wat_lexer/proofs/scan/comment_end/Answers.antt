use Rattle.std.proofs.Common.{arith, ◌≡◌, ◌+◌, ◌-◌, ◌∙◌, sym, drop, get_or, true}
use Rattle.wat_lexer.specs.Laws.Prelude.{common_steps, behind_comment}
use Rattle.wat_lexer.proofs.Steps.{comment_step}
use Rattle.wat_lexer.proofs.Tables.{Below, in_comment, comment_at, comment_to}
use Rattle.wat_lexer.proofs.scan.comment_end.Goals.{else-a-eq40-via-then-a-eq40+else-b-eq59, else-a-eq40-via-else-a-eq40, else-a-eq59-via-then-a-eq59+else-b-eq41, else-a-eq59-via-else-a-eq59}
use Rattle.wat_lexer.proofs.scan.comment_end.Goals as goal

pub loop-i-preserved : goal.loop-i-preserved
loop-i-preserved c =
    let text = c.args.text.now in
    let i = c.loop-i.i in
    let depth = c.loop-i.depth in
    let end = c.marked_end-i.result in
    let next : behind_comment depth (drop (i + 1) text) ≡ behind_comment 0 (drop c.args.from text) = elim c.else-a-eq40.branch [
      | else-a-eq40-via-then-a-eq40+else-b-eq59 w ↦ elim c.else-a-eq59.branch [
        | else-a-eq59-via-then-a-eq59+else-b-eq41 v ↦ grind (arith, common_steps, comment_step)
        | else-a-eq59-via-else-a-eq59 v ↦ grind (arith, common_steps, comment_step)
      ]
      | else-a-eq40-via-else-a-eq40 w ↦ elim c.else-a-eq59.branch [
        | else-a-eq59-via-then-a-eq59+else-b-eq41 v ↦ grind (arith, common_steps, comment_step)
        | else-a-eq59-via-else-a-eq59 v ↦ grind (arith, common_steps, comment_step)
      ]
    ] in
    let all : Below (λ k. in_comment (get_or text k 0) ≡ true) (i + 1) end = λ k lt le. sym (comment_at (get_or text k 0) (c.type_inv.text k).fits) ∙ c.marked_end-i.ensures.marked k lt le in
    record {
      same = sym (comment_to depth (end - (i + 1)) (i + 1) end text (omega arith) c.marked_end-i.ensures.within.1 all) ∙ next;
      room = omega arith;
      from = omega arith;
      within = c.marked_end-i.ensures.within.1;
    }

use Rattle.std.proofs.Common.{◌∙◌}
use Rattle.wat_expr.proofs.Turns.{unpending}
use Rattle.wat_expr.proofs.ReadTurns.{close_alone, close_with_end, close_if}
use Rattle.wat_expr.proofs.reader.Reader.close.Goals as goal

pub returns-in-Some : goal.returns-in-Some
returns-in-Some c = λ m n. unpending _ _ _ _ _ c.in-Some.is (λ _. tt)

pub returns-in-Ok-Folded : goal.returns-in-Ok-Folded
returns-in-Ok-Folded c =
    let x = c.in-Ok-Folded.ensures in
    λ m. close_alone x.0 _ _ _ _ m _ _ c.in_default.is x.1 (x.2 ∙ c.in-Ok-Folded.field-0-is) tt x.3

pub returns-in-Ok-Arm : goal.returns-in-Ok-Arm
returns-in-Ok-Arm c =
    let x = c.in-Ok-Arm.ensures in
    λ m. close_alone x.0 _ _ _ _ m _ _ c.in_default.is x.1 (x.2 ∙ c.in-Ok-Arm.field-0-is) tt x.3

pub returns-in-Ok-Block : goal.returns-in-Ok-Block
returns-in-Ok-Block c =
    let x = c.in-Ok-Block.ensures in
    λ m. close_with_end x.0 _ _ _ _ m _ _ c.in_default.is x.1 (x.2 ∙ c.in-Ok-Block.field-0-is) _ _ tt x.3 c.push_end.ensures

pub returns-in-Ok-AfterThen : goal.returns-in-Ok-AfterThen
returns-in-Ok-AfterThen c =
    let x = c.in-Ok-AfterThen.ensures in
    λ m. close_with_end x.0 _ _ _ _ m _ _ c.in_default.is x.1 (x.2 ∙ c.in-Ok-AfterThen.field-0-is) _ _ tt x.3 c.push_end-in-Ok-AfterThen.ensures

pub returns-in-Ok-AfterElse : goal.returns-in-Ok-AfterElse
returns-in-Ok-AfterElse c =
    let x = c.in-Ok-AfterElse.ensures in
    λ m. close_with_end x.0 _ _ _ _ m _ _ c.in_default.is x.1 (x.2 ∙ c.in-Ok-AfterElse.field-0-is) _ _ tt x.3 c.push_end-in-Ok-AfterElse.ensures

pub returns-in-Ok-If : goal.returns-in-Ok-If
returns-in-Ok-If c =
    let x = c.in-Ok-If.ensures in
    λ m n. close_if x.0 _ _ _ m _ x.1 (x.2 ∙ c.in-Ok-If.field-0-is)

use Rattle.std.proofs.Common.{inl, inr, refl}
use Rattle.wat.specs.Formats.{FormatsName}
use Rattle.wat.proofs.formatting.output_for.Goals as goal

-- the report of what can't be formatted
pub returns-in-Ok-Err : goal.returns-in-Ok-Err
unfolding FormatsName
returns-in-Ok-Err g c =
    let (bytes, given, left) = rw c.in-Ok-Err.field-0-is at c.in-Ok-Err.ensures.done in
    inl (bytes, given, inr ((c.in-Ok-Err.report.items, left.0), (left.1, c.new.ensures.items), refl))

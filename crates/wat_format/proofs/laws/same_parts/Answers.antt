use Rattle.std.proofs.Common.{◌∙◌}
use Rattle.wat_format.proofs.OneReading.{one_reading}
use Rattle.wat_format.proofs.laws.same_parts.Goals as goal

pub returns : goal.returns
returns c text answer ps qs (us, r, w) a b = one_reading a r ∙ one_reading w b

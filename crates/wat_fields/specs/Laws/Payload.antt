-- Laws: the elements of an element segment.
use Rattle.std.proofs.Common.{◌≤◌, lit≤}
use Rattle.wat_expr.specs.Prelude.{expression, folded_instruction}
use Rattle.wat_fields.specs.Item.{written_or_folded, item}

pub item_consumes : 1 ≤ item.least
unfolding item written_or_folded expression folded_instruction
item_consumes = lit≤ tt

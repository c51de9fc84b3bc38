-- Laws: the name of an inline export.
use Rattle.std.proofs.Common.{◌≤◌, lit≤}
use Rattle.wat_links.specs.InlineName.{inline_name}

pub inline_name_consumes : 1 ≤ inline_name.least
unfolding inline_name
inline_name_consumes = lit≤ tt

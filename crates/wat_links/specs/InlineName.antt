-- The name of an inline export.
use Rattle.std.specs.Prelude.{ℕ, List, codes}
use Rattle.wat_types.specs.Prelude.{Production, group, text}

-- ( export name )
unfoldable pub inline_name : Production (List ℕ)
inline_name = group (codes "export") text

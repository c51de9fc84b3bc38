-- The names of inputs.
use Rattle.std.specs.Prelude.{ℕ, List, codes, if◌then◌else◌}
use Rattle.std.specs.Str.{bytes_eq}

-- reports and lists show `stdin` for the input `-`, which is standard input
unfoldable pub shown_name : List ℕ → List ℕ → List ℕ
shown_name stdin name = if bytes_eq name (codes "-") then stdin else name

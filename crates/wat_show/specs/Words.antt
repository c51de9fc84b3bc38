-- Additions to an output.
use Rattle.std.specs.Prelude.{ℕ, List, ◌++◌, codes, decimal}

-- a line: words and a number
abbrev pub counted : List ℕ → ℕ → List ℕ
counted words n = words ++ (decimal n ++ codes "\n")

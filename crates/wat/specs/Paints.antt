-- A report with colors.
use Rattle.std.specs.Prelude.{◌≡◌, ◌⊎◌, ℕ, Bool, true, List, [], ◌∷◌, ◌++◌, codes}
use Rattle.wat.specs.declared.paint.Style.{Style}
use Rattle.wat.specs.declared.paint.Style.TheVariants.{Plain, Bold, Severe, Label, Mark}

-- the control sequences of ECMA-48 before and after a text of that style; 27 is the character ESC
abbrev pub start_of : Style → List ℕ
start_of Plain = []
start_of Bold = 27 ∷ codes "[1m"
start_of Severe = 27 ∷ codes "[1;31m"
start_of Label = 27 ∷ codes "[1;36m"
start_of Mark = 27 ∷ codes "[31m"

abbrev pub end_of : Style → List ℕ
end_of Plain = []
end_of Bold = 27 ∷ codes "[0m"
end_of Severe = 27 ∷ codes "[0m"
end_of Label = 27 ∷ codes "[0m"
end_of Mark = 27 ∷ codes "[0m"

unfoldable pub styled : Style → List ℕ → List ℕ
styled style text = start_of style ++ (text ++ end_of style)

-- The output is the report in parts, each with a style. So without the sequences that were added, the
-- output is the report.
pub data IsPainted : List ℕ → List ℕ → Type 0 where
  nothing : IsPainted [] []
  more : (report output text : List ℕ) (style : Style)
      → IsPainted report output → IsPainted (report ++ text) (output ++ styled style text)

-- a text was added to the report, and the output is `new`
unfoldable pub Paints : List ℕ → List ℕ → List ℕ → Type 0
Paints text old new = (report : List ℕ) → IsPainted report old → IsPainted (report ++ text) new

-- the report is written as it is, or with colors if they are on
abbrev pub IsColored : Bool → List ℕ → List ℕ → Type 0
IsColored color report output = (output ≡ report) ⊎ ((color ≡ true) × IsPainted report output)

-- What a call for C returns.
use Rattle.std.specs.Prelude.{◌≡◌, ◌≤◌, ◌<◌, ◌⊎◌, ◌++◌, Bool, ℕ, ℤ, pos, List, length, drop, if◌then◌else◌}
use Rattle.wat_answers.specs.Prelude.{Layout, Line, Indented, IsFormatted, ReportsBytes}

-- The length of the output is told. Where the room holds the output, the room begins with it, and
-- the rest of the room is as before; else all of the room is as before.
abbrev pub Filled : {A : Type 0} → List A → List A → List A → ℕ → Type 0
Filled output before after needed =
    (needed ≡ length output)
    × (length output ≤ length before → after ≡ output ++ drop (length output) before)
    × (length before < length output → after ≡ before)

-- There is an output, and its status is returned; or memory ran out, 2 is returned, and nothing was
-- written.
abbrev pub Answered : (List ℕ → ℕ → Type 0) → ℤ → List ℕ → List ℕ → ℕ → ℕ → Type 0
Answered answers result before after needed_before needed =
    ((output : List ℕ) × (status : ℕ) × answers output status × (result ≡ pos status)
    × Filled output before after needed)
    ⊎ ((result ≡ pos 2) × (after ≡ before) × (needed ≡ needed_before))

-- bytes are formatted, with status 0, or it is reported why they can't be, with status 1
unfoldable pub FormatsBytes : List ℕ → List ℕ → List ℕ → ℕ → Type 0
FormatsBytes name bytes output status =
    (IsFormatted bytes output × (status ≡ 0)) ⊎ (ReportsBytes name bytes output × (status ≡ 1))

-- on one line, or its instructions one a line
abbrev pub layout_of : Bool → Layout
layout_of line = if line then Line else Indented

-- The modes of the program, and its output in each mode.
use Rattle.std.specs.Prelude.{ℕ, false, List, Option, Some, None, codes, if◌then◌else◌}
use Rattle.wat_core.specs.Prelude.{bytes_eq, SpellsModule, folded_instruction, expression, TextSpells, function_type}
use Rattle.wat_show.specs.Expressions.{expression_text}
use Rattle.wat_show.specs.Types.{function_text}
use Rattle.wat_show.specs.Modules.{module_text}
use Rattle.wat_show.specs.Shown.{ShowsText, ShowsBytes}
use Rattle.wat_show.specs.declared.mode.Mode.{Mode}
use Rattle.wat_show.specs.declared.mode.Mode.TheVariants.{FuncType, Expr, Folded, «Module»}

-- the mode that a word names
abbrev pub mode_of : List ℕ → Option Mode
mode_of word =
    if bytes_eq word (codes "functype") then Some FuncType
    else if bytes_eq word (codes "expr") then Some Expr
    else if bytes_eq word (codes "folded") then Some Folded
    else if bytes_eq word (codes "module") then Some «Module»
    else None

-- The output and the status are right for the text in the mode.
abbrev pub ShownText : Mode → List ℕ → List ℕ → ℕ → Type 0
ShownText FuncType text out status =
    ShowsText (TextSpells false function_type) function_text text out status
ShownText Expr text out status =
    ShowsText (TextSpells false expression) expression_text text out status
ShownText Folded text out status =
    ShowsText (TextSpells false folded_instruction) expression_text text out status
ShownText «Module» text out status = ShowsText SpellsModule module_text text out status

-- The output and the status are right for the bytes in the mode.
abbrev pub ModeShows : Mode → List ℕ → List ℕ → ℕ → Type 0
ModeShows mode bytes out status = ShowsBytes (ShownText mode) bytes out status

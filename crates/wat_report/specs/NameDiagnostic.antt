-- The diagnostic of a fault of names, blocks or imports.
use Rattle.std.specs.Prelude.{◌≡◌, ℕ, List, []}
use Rattle.wat_mnemonics.specs.Prelude.{offset_of}
use Rattle.wat_scopes.specs.declared.fault.NameFault.{NameFault}
use Rattle.wat_scopes.specs.declared.space.Name.{Name}
use Rattle.wat_report.specs.Diagnostic.{IsPlaced}
use Rattle.wat_report.specs.NameHints.{name_hint}
use Rattle.wat_report.specs.NameRules.{name_message}
use Rattle.wat_report.specs.Positions.{char_start}
use Rattle.wat_report.specs.declared.diagnostic.Diagnostic.{Diagnostic}
use Rattle.wat_report.specs.declared.kind.Kind.TheVariants.{Names}

-- the diagnostic of a fault at an offset where a character begins
abbrev pub IsNameFaultAt : List ℕ → ℕ → NameFault → List Name → Diagnostic → Type 0
IsNameFaultAt text at f names d =
    IsPlaced text at (Names f.kind) (name_message text at f) (name_hint text at f names) d

-- The diagnostic of a fault, at the character that contains its offset; `names` are the names that
-- the module defines.
abbrev pub IsNameDiagnostic : List ℕ → NameFault → List Name → Diagnostic → Type 0
IsNameDiagnostic text f names d =
    IsNameFaultAt text (char_start text (offset_of f.span)) f names d × (d.expected.items ≡ [])

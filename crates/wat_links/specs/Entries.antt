-- How the entries of a `dylink.0` section are cut into subsections.
use Rattle.std.specs.Prelude.{ℕ, List, [], ◌∷◌, map, ⊤}
use Rattle.wat_types.specs.Prelude.{Production, made, where_else}
use Rattle.wat_links.specs.Dylink.{Dylink0SubsectionModel, export_info, import_info, at_export, at_import, lone_entry}
use Rattle.wat_links.specs.DylinkEntries.{export_entry, import_entry}

-- an export entry, an import entry, or another entry
pub data Dylink0Entry : Type 0 where
  of_export : List ℕ × ℕ → Dylink0Entry
  of_import : List ℕ × List ℕ × ℕ → Dylink0Entry
  other : Dylink0SubsectionModel → Dylink0Entry

-- ( export-info .. ) | ( import-info .. ) | another entry
unfoldable pub entry : Production Dylink0Entry
entry = where_else at_export (made of_export export_entry)
    (where_else at_import (made of_import import_entry) (made other lone_entry))

-- the entries that a subsection holds
abbrev pub entries_in : Dylink0SubsectionModel → List Dylink0Entry
entries_in (export_info xs) = map of_export xs
entries_in (import_info xs) = map of_import xs
entries_in s = other s ∷ []

-- a subsection of exports or of imports has at least one entry
abbrev pub IsFilled : Dylink0SubsectionModel → Type 0
IsFilled (export_info []) = ⊥
IsFilled (import_info []) = ⊥
IsFilled _ = ⊤

-- the subsection and the first of the next subsections are not both of exports or both of imports
abbrev pub IsApart : Dylink0SubsectionModel → List Dylink0SubsectionModel → Type 0
IsApart (export_info xs) (export_info ys ∷ ss) = ⊥
IsApart (import_info xs) (import_info ys ∷ ss) = ⊥
IsApart _ _ = ⊤

-- no subsection of exports or of imports is empty, and no two adjacent subsections are both of
-- exports or both of imports
abbrev pub AreCut : List Dylink0SubsectionModel → Type 0
AreCut [] = ⊤
AreCut (s ∷ ss) = IsFilled s × IsApart s ss × AreCut ss

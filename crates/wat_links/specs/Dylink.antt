-- The `dylink.0` section.
use Rattle.std.specs.Prelude.{◌≤◌, ℕ, Bool, true, List, ◌∷◌, codes, map, unwrap_or}
use Rattle.std.proofs.Common.{lit≤}
use Rattle.wat_types.specs.Prelude.{Bor, Token, Production, seq, made, where_else, opt, group, many, unsigned, text, no_items, at_group, second_word, at_more, Test, run}
use Rattle.wat_links.specs.declared.dylink.Dylink0.{Dylink0}
use Rattle.wat_links.specs.declared.dylink.Dylink0Subsection.{Dylink0Subsection}
use Rattle.wat_links.specs.DylinkEntries.{export_entry, import_entry}
use Rattle.wat_links.specs.Laws.DylinkEntries.{export_entry_consumes, import_entry_consumes}
use Rattle.wat_links.specs.declared.dylink.Dylink0Subsection.TheVariants as code

-- ---- views

pub data Dylink0SubsectionModel : Type 0 where
  mem_info : ℕ → ℕ → ℕ → ℕ → Dylink0SubsectionModel
  needed : List (List ℕ) → Dylink0SubsectionModel
  export_info : List (List ℕ × ℕ) → Dylink0SubsectionModel
  import_info : List (List ℕ × List ℕ × ℕ) → Dylink0SubsectionModel
  runtime_path : List (List ℕ) → Dylink0SubsectionModel
  target_arch : List ℕ → Dylink0SubsectionModel

abbrev pub dylink_export_view : Bor (List ℕ) × ℕ → List ℕ × ℕ
dylink_export_view e = (e.0.now, e.1)

abbrev pub dylink_import_view : Bor (List ℕ) × Bor (List ℕ) × ℕ → List ℕ × List ℕ × ℕ
dylink_import_view e = (e.0.now, e.1.now, e.2)

abbrev pub subsection_view : Dylink0Subsection → Dylink0SubsectionModel
subsection_view (code.MemInfo ms ma ts ta) = mem_info ms ma ts ta
subsection_view (code.Needed xs) = needed (map (λ x. x.now) xs.items)
subsection_view (code.ExportInfo es) = export_info (map dylink_export_view es.items)
subsection_view (code.ImportInfo es) = import_info (map dylink_import_view es.items)
subsection_view (code.RuntimePath xs) = runtime_path (map (λ x. x.now) xs.items)
subsection_view (code.TargetArch x) = target_arch x.now

abbrev pub dylink_view : Dylink0 → List Dylink0SubsectionModel
dylink_view d = map subsection_view d.subsections.items

-- has no name and no entry
abbrev pub heapless_subsection : Dylink0SubsectionModel → Bool
heapless_subsection (mem_info ms ma ts ta) = true
heapless_subsection (needed xs) = no_items xs
heapless_subsection (export_info es) = no_items es
heapless_subsection (import_info es) = no_items es
heapless_subsection (runtime_path xs) = no_items xs
heapless_subsection (target_arch x) = true

-- the number of the subsection's kind in a binary module
abbrev pub id_of : Dylink0Subsection → ℕ
id_of (code.MemInfo ms ma ts ta) = 1
id_of (code.Needed xs) = 2
id_of (code.ExportInfo es) = 3
id_of (code.ImportInfo es) = 4
id_of (code.RuntimePath xs) = 5
id_of (code.TargetArch x) = 6

-- ---- entries that are separate subsections

abbrev pub no_size : ℕ × ℕ
no_size = (0, 0)

-- ( word size alignment ) if the second token is the word; else 0 and 0
unfoldable pub sizes : List ℕ → Production (ℕ × ℕ)
sizes w = made (λ o. unwrap_or o no_size)
    (opt (second_word w) (group w (seq (unsigned 32) (unsigned 32))))

-- ( mem-info ( memory u32 u32 )? ( table u32 u32 )? )
unfoldable pub mem_info_entry : Production Dylink0SubsectionModel
mem_info_entry =
    group (codes "mem-info") (made (λ v. mem_info v.0.0 v.0.1 v.1.0 v.1.1)
    (seq (sizes (codes "memory")) (sizes (codes "table"))))

-- ( word name* )
unfoldable pub names_entry : List ℕ → Production (List (List ℕ))
names_entry w = group w (many at_more text (lit≤ tt))

-- ( mem-info .. ) | ( needed name* ) | ( runtime-path name* ) | ( target-arch name )
unfoldable pub lone_entry : Production Dylink0SubsectionModel
lone_entry =
    where_else (at_group (codes "mem-info")) mem_info_entry
    (where_else (at_group (codes "needed")) (made needed (names_entry (codes "needed")))
    (where_else (at_group (codes "runtime-path"))
    (made runtime_path (names_entry (codes "runtime-path")))
    (made target_arch (group (codes "target-arch") text))))

-- ---- entries of exports and of imports

abbrev pub at_export : Test
at_export = at_group (codes "export-info")

abbrev pub begins_export : List Token → Bool
begins_export t = run at_export t

abbrev pub at_import : Test
at_import = at_group (codes "import-info")

abbrev pub begins_import : List Token → Bool
begins_import t = run at_import t

-- an entry, and all entries of the same kind directly after it
abbrev pub entry_run : {A : Type 0} → Test → (g : Production A) → 1 ≤ g.least
    → Production (List A)
entry_run test g consumes = made (λ v. v.0 ∷ v.1) (seq g (many test g consumes))

-- ---- subsections

-- a run of export entries, a run of import entries, or one other entry
unfoldable pub subsection : Production Dylink0SubsectionModel
subsection =
    where_else at_export (made export_info
    (entry_run at_export export_entry export_entry_consumes))
    (where_else at_import (made import_info
    (entry_run at_import import_entry import_entry_consumes))
    lone_entry)

-- A run of entries has at least one entry.
use Rattle.std.specs.Prelude.{◌≤◌, List, refl}
use Rattle.wat_links.specs.Prelude.{Token, Production, by_read, many_reads, NotHeapless, no_items, Test, run, entry_run, export_entry_consumes, import_entry_consumes}

pub run_not_heapless : {A : Type 0} (test : Test) (g : Production A) (consumes : 1 ≤ g.least) (t : List Token) → NotHeapless no_items ((entry_run test g consumes).reads t)
run_not_heapless test g consumes t = by_read (g.reads t)
    (λ x e. rw e (by_read (many_reads (λ r. run test r) g x.1) (λ y h. rw h refl) (λ h. rw h tt)))
    (λ e. rw e tt)

pub ruleset run_steps = (export_entry_consumes, import_entry_consumes, run_not_heapless)

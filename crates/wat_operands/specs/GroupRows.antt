-- Sample texts as tokens, and the operands that they spell.
use Rattle.std.specs.Prelude.{[], ◌∷◌, ◌++◌, codes, Some, None}
use Rattle.wat_operands.specs.Prelude.{Keyword, Integer, number, in_parens, Spelled, no_label, use_of, i32, i64, try_table, resume_table, select_types}
use Rattle.wat_operands.specs.Catches.{try_of}
use Rattle.wat_operands.specs.CatchClause.{catch_of}
use Rattle.wat_operands.specs.Handler.{on_label, on_switch}
use Rattle.wat_operands.specs.declared.catches.CatchKind.TheVariants.{Catch, CatchAllRef}

-- `(catch 0 1) (catch_all_ref 2)`: tag 0 with label 1, and every exception with label 2
abbrev pub Catches : Type 0
Catches =
    Spelled try_table (in_parens (Keyword (codes "catch") ∷ Integer (codes "0")
    ∷ Integer (codes "1") ∷ []) ++ in_parens
    (Keyword (codes "catch_all_ref") ∷ Integer (codes "2") ∷ []))
    (try_of (record { label = no_label; ty = use_of None None })
    (catch_of (Catch (number 0)) (number 1) ∷ catch_of CatchAllRef (number 2) ∷ []))

-- `(on 0 switch) (on 1 2)`
abbrev pub Handlers : Type 0
Handlers =
    Spelled resume_table (in_parens
    (Keyword (codes "on") ∷ Integer (codes "0") ∷ Keyword (codes "switch") ∷ [])
    ++ in_parens (Keyword (codes "on") ∷ Integer (codes "1") ∷ Integer (codes "2") ∷ []))
    (on_switch (number 0) ∷ on_label (number 1) (number 2) ∷ [])

-- no tokens, `(result)`, and `(result i32) (result i64)`
abbrev pub Selects : Type 0
Selects =
    Spelled select_types [] None
    × Spelled select_types (in_parens (Keyword (codes "result") ∷ [])) (Some [])
    × Spelled select_types (in_parens (Keyword (codes "result") ∷ Keyword (codes "i32") ∷ [])
    ++ in_parens (Keyword (codes "result") ∷ Keyword (codes "i64") ∷ [])) (Some (i32 ∷ i64 ∷ []))

-- One clause of a try table.
use Rattle.std.specs.Prelude.{codes}
use Rattle.wat_types.specs.Prelude.{at_word, Production, seq, made, where_else, word, after_word, paren, IndexModel, index}
use Rattle.wat_operands.specs.declared.catches.CatchKind.{CatchKind}
use Rattle.wat_operands.specs.declared.catches.CatchKind.TheVariants.{Catch, CatchRef, CatchAll, CatchAllRef}

-- ---- views

-- a clause of a `try_table`, without positions
pub record CatchModel : Type 0 where
  pub kind : CatchKind IndexModel
  pub label : IndexModel

abbrev pub catch_of : CatchKind IndexModel → IndexModel → CatchModel
catch_of k l = record { kind = k; label = l }

-- ---- the grammar

-- `catch` idx | `catch_ref` idx | `catch_all` | `catch_all_ref`
unfoldable pub catch_kind : Production (CatchKind IndexModel)
catch_kind =
    where_else (at_word (codes "catch")) (made Catch (after_word (codes "catch") index))
    (where_else (at_word (codes "catch_ref"))
    (made CatchRef (after_word (codes "catch_ref") index))
    (where_else (at_word (codes "catch_all")) (made (λ _. CatchAll) (word (codes "catch_all")))
    (made (λ _. CatchAllRef) (word (codes "catch_all_ref")))))

-- ( catch idx idx ) | ( catch_ref idx idx ) | ( catch_all idx ) | ( catch_all_ref idx ): the label
-- is last
unfoldable pub catch_clause : Production CatchModel
catch_clause = paren (made (λ v. catch_of v.0 v.1) (seq catch_kind index))

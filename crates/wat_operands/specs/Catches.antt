-- The catch clauses of a `try_table`.
use Rattle.std.specs.Prelude.{◌≡◌, Bool, List, codes, Option, Some, None, map}
use Rattle.wat_types.specs.Prelude.{LendsIf, MutBor, Fml, RattleType, Token, Test, either_test, at_group, run, Production, seq, made, many, index_view}
use Rattle.wat_operands.specs.Block.{BlockTypeModel, block_view, block_type, SameBlock}
use Rattle.wat_operands.specs.declared.catches.CatchKind.{CatchKind}
use Rattle.wat_operands.specs.declared.catches.CatchKind.TheVariants.{Catch, CatchRef, CatchAll, CatchAllRef}
use Rattle.wat_operands.specs.declared.catches.TryTable.{TryTable}
use Rattle.wat_operands.specs.declared.catches.TryTableCatch.{TryTableCatch}
use Rattle.wat_operands.specs.CatchClause.{CatchModel, catch_of, catch_clause}
use Rattle.wat_operands.specs.Laws.Catches.{catch_clause_consumes}
use Rattle.wat_operands.specs.contracts.catches.CatchKind as kinds

-- ---- the tag of a clause

abbrev pub caught_tag : {I : Type 0} → CatchKind I → Option I
caught_tag (Catch x) = Some x
caught_tag (CatchRef x) = Some x
caught_tag CatchAll = None
caught_tag CatchAllRef = None

-- the same kind with another tag; a kind without a tag doesn't change
abbrev pub with_tag : {I : Type 0} → CatchKind I → I → CatchKind I
with_tag (Catch x) w = Catch w
with_tag (CatchRef x) w = CatchRef w
with_tag CatchAll w = CatchAll
with_tag CatchAllRef w = CatchAllRef

-- a write through the result changes the tag, and nothing else
abbrev pub LendsTag : (I : RattleType) → MutBor (CatchKind I.Denot) → Option (MutBor I.Denot) → Fml
LendsTag I s r = LendsIf (kinds.the_row I) I s r (with_tag s.now) s.now

-- ---- views

-- a kind with the given view of its tag
abbrev pub catch_kind_view : {I A : Type 0} → (I → A) → CatchKind I → CatchKind A
catch_kind_view view (Catch x) = Catch (view x)
catch_kind_view view (CatchRef x) = CatchRef (view x)
catch_kind_view view CatchAll = CatchAll
catch_kind_view view CatchAllRef = CatchAllRef

abbrev pub catch_view : TryTableCatch → CatchModel
catch_view c = catch_of (catch_kind_view index_view c.kind) (index_view c.label)

-- a `try_table`, without positions
pub record TryTableModel : Type 0 where
  pub block : BlockTypeModel
  pub catches : List CatchModel

abbrev pub try_of : BlockTypeModel → List CatchModel → TryTableModel
try_of b cs = record { block = b; catches = cs }

abbrev pub try_view : TryTable → TryTableModel
try_view t = try_of (block_view t.block.value) (map catch_view t.catches.items)

-- ---- the grammar

-- a group that begins with one of the four words
abbrev pub at_catch : Test
at_catch = either_test (either_test (at_group (codes "catch")) (at_group (codes "catch_ref")))
    (either_test (at_group (codes "catch_all")) (at_group (codes "catch_all_ref")))

abbrev pub begins_catch : List Token → Bool
begins_catch t = run at_catch t

-- BlockType, and then clauses as long as a group begins with one of the four words
unfoldable pub try_table : Production TryTableModel
try_table =
    made (λ v. try_of v.0 v.1) (seq block_type
    (many at_catch catch_clause catch_clause_consumes))

-- ---- the same value

-- the same block, and the same clauses
abbrev pub SameTry : TryTable → TryTable → Type 0
SameTry a b = SameBlock a.block.value b.block.value × (a.catches.items ≡ b.catches.items)

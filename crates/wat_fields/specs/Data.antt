-- Data segments.
use Rattle.std.specs.Prelude.{Bool, true, ◌&&◌, List, codes, unwrap_or}
use Rattle.wat_expr.specs.Prelude.{Token, Production, seq, made, where_else, opt, after_word, group, paren, IndexModel, number, index_view, index, unsigned, no_items, at_integer, Test, run, either_test, opposite_test, second_word, Label, label_view, label, ExpressionModel, expression_view, heapless_expression}
use Rattle.wat_tokens.specs.Test.{at_kind, at_string}
use Rattle.wat_tokens.specs.Kind.{a_rparen}
use Rattle.wat_fields.specs.Numbers.{at_numbers}
use Rattle.wat_fields.specs.DataVal.{DataValModel, data_vals_view}
use Rattle.wat_fields.specs.DataVals.{data_vals}
use Rattle.wat_fields.specs.Offset.{offset_inside}
use Rattle.wat_fields.specs.declared.data.Data.{Data}
use Rattle.wat_fields.specs.declared.data.DataKind.{DataKind}
use Rattle.wat_fields.specs.declared.data.DataKind.TheVariants as code

-- ---- views

-- active in a memory, at an offset; or passive
pub data DataKindModel : Type 0 where
  passive : DataKindModel
  active : IndexModel → ExpressionModel → DataKindModel

pub record DataModel : Type 0 where
  pub label : Label
  pub kind : DataKindModel
  pub vals : List DataValModel

abbrev pub data_of : Label → DataKindModel → List DataValModel → DataModel
data_of l k v = record { label = l; kind = k; vals = v }

abbrev pub data_kind_view : DataKind → DataKindModel
data_kind_view code.Passive = passive
data_kind_view (code.Active i e) = active (index_view i) (expression_view e)

abbrev pub data_view : Data → DataModel
data_view d = data_of (label_view d.id d.name) (data_kind_view d.kind) (data_vals_view d.data.items)

-- no instruction
abbrev pub heapless_data_kind : DataKindModel → Bool
heapless_data_kind passive = true
heapless_data_kind (active i e) = heapless_expression e

-- no instruction and no value
abbrev pub heapless_data : DataModel → Bool
heapless_data d = heapless_data_kind d.kind && no_items d.vals

-- ---- the grammar

-- `)`, a string, or a group of numbers
abbrev pub at_passive : Test
at_passive = either_test (at_kind a_rparen) (either_test at_string at_numbers)

abbrev pub begins_passive : List Token → Bool
begins_passive t = run at_passive t

-- the second token is `memory`, whatever the first token is
abbrev pub at_memory : Test
at_memory = second_word (codes "memory")

abbrev pub memory_follows : List Token → Bool
memory_follows t = run at_memory t

-- u32 if an Integer is next; ( memory idx ) if the second token is `memory`; otherwise nothing,
-- memory 0
unfoldable pub data_memory : Production IndexModel
data_memory =
    where_else at_integer (made number (unsigned 32))
    (made (λ i. unwrap_or i (number 0)) (opt at_memory (group (codes "memory") index)))

-- a memory, and ( offset )
unfoldable pub data_active : Production DataKindModel
data_active = made (λ v. active v.0 v.1) (seq data_memory (paren offset_inside))

-- passive if `)`, a string or a group of numbers is next; otherwise active
unfoldable pub data_kind : Production DataKindModel
data_kind = made (λ k. unwrap_or k passive) (opt (opposite_test at_passive) data_active)

-- `data id? name?`, a kind, and DataVal*, to the end
unfoldable pub data_segment : Production DataModel
data_segment =
    after_word (codes "data") (made (λ v. data_of v.0 v.1.0 v.1.1)
    (seq label (seq data_kind data_vals)))

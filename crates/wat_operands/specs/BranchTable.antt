-- The production of the labels of a `br_table`.
use Rattle.wat_types.specs.Prelude.{Production, restated}
use Rattle.wat_operands.specs.Branch.{BrTableModel, BrTableSpells, br_table_split}
use Rattle.wat_operands.specs.Laws.Branch.{br_table_to, br_table_from}

-- idx and idx*: the last is the default, the others the labels
unfoldable pub br_table : Production BrTableModel
br_table = restated br_table_split BrTableSpells br_table_to br_table_from

-- The expressions of a module.
use Rattle.std.specs.Prelude.{ℕ, List, [], ◌∷◌, ◌++◌, Option, Some, None, flat_map}
use Rattle.wat_core.specs.Prelude.{ModuleFieldModel, ExpressionModel, ElemPayloadModel, indices, exprs, a_func, a_table, a_global, an_elem, a_data}
use Rattle.wat_fields.specs.Func.{FuncKindModel}
use Rattle.wat_fields.specs.Global.{GlobalKindModel}
use Rattle.wat_fields.specs.Table.{TableKindModel}
use Rattle.wat_fields.specs.Elem.{ElemKindModel}
use Rattle.wat_fields.specs.Data.{DataKindModel}
use Rattle.wat_scopes.specs.Blocks.{first_fault}
use Rattle.wat_scopes.specs.FaultModels.{FaultModel, fault_of_kind}
use Rattle.wat_scopes.specs.Spaces.{NameModel}
use Rattle.wat_scopes.specs.declared.fault.FaultKind.{FaultKind}
use Rattle.wat_instr_uses.specs.Names.{instrs_uses}
use Rattle.wat_instr_uses.specs.Steps.{steps_of}
use Rattle.wat_names.specs.Numbered.{numbered}
use Rattle.wat_fields.specs.Func as funcs
use Rattle.wat_fields.specs.Global as globals
use Rattle.wat_fields.specs.Table as tables
use Rattle.wat_fields.specs.Elem as elems
use Rattle.wat_fields.specs.Data as datas

-- ---- where they are

abbrev pub payload_expressions : ElemPayloadModel → List ExpressionModel
payload_expressions (indices is) = []
payload_expressions (exprs t es) = es

abbrev pub func_expressions : FuncKindModel → List ExpressionModel
func_expressions (funcs.imported i exact) = []
func_expressions (funcs.inline ls e) = e ∷ []

abbrev pub global_expressions : GlobalKindModel → List ExpressionModel
global_expressions (globals.imported i) = []
global_expressions (globals.inline e) = e ∷ []

abbrev pub optional_expression : Option ExpressionModel → List ExpressionModel
optional_expression None = []
optional_expression (Some e) = e ∷ []

abbrev pub table_expressions : TableKindModel → List ExpressionModel
table_expressions (tables.imported i t) = []
table_expressions (tables.normal t e) = optional_expression e
table_expressions (tables.inline t is64 shared p) = payload_expressions p

abbrev pub offset_expressions : ElemKindModel → List ExpressionModel
offset_expressions elems.passive = []
offset_expressions elems.declared = []
offset_expressions (elems.active t e) = e ∷ []

abbrev pub data_expressions : DataKindModel → List ExpressionModel
data_expressions datas.passive = []
data_expressions (datas.active i e) = e ∷ []

-- the expressions of a field, in the order of the text
abbrev pub field_expressions : ModuleFieldModel → List ExpressionModel
field_expressions (a_func f) = func_expressions f.kind
field_expressions (a_table t) = table_expressions t.kind
field_expressions (a_global g) = global_expressions g.kind
field_expressions (an_elem e) = offset_expressions e.segment.0 ++ payload_expressions e.segment.1
field_expressions (a_data d) = data_expressions d.kind
field_expressions _ = []

abbrev pub expressions_in : List ModuleFieldModel → List ExpressionModel
expressions_in fs = flat_map field_expressions fs

-- ---- their faults, and the names that they use

-- the fault of this kind, if there is one
abbrev pub kind_faults : Option FaultKind → List FaultModel
kind_faults None = []
kind_faults (Some k) = fault_of_kind k ∷ []

-- the first fault of the blocks and labels of an expression
abbrev pub expression_faults : ExpressionModel → List FaultModel
expression_faults e = kind_faults (first_fault [] (steps_of e.instrs))

abbrev pub expressions_faults : List ExpressionModel → List FaultModel
expressions_faults es = flat_map expression_faults es

-- the names that expressions in the field with the index k use, apart from labels
abbrev pub expressions_uses : ℕ → List ExpressionModel → List NameModel
expressions_uses k es = flat_map (λ e. instrs_uses k e.instrs) es

abbrev pub body_uses : ℕ → ModuleFieldModel → List NameModel
body_uses k f = expressions_uses k (field_expressions f)

abbrev pub bodies_uses : List ModuleFieldModel → List NameModel
bodies_uses fs = numbered body_uses 0 fs

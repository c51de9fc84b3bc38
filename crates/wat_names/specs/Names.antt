-- Modules whose names and blocks fit (Core Specification, Text Format, "Contexts", "Labels",
-- "Control Instructions" and "Modules"). Numbers are not checked.
use Rattle.std.specs.Prelude.{◌≡◌, Bool, true, ◌&&◌, List, [], ◌∷◌, ◌++◌}
use Rattle.wat_core.specs.Prelude.{ModuleModel, ModuleKindModel, ModuleFieldModel, ExpressionModel, text, binary}
use Rattle.wat_scopes.specs.Blocks.{nests}
use Rattle.wat_scopes.specs.FaultModels.{FaultModel, doubled, unknown, imports_first, late}
use Rattle.wat_scopes.specs.Known.{distinct, all_known}
use Rattle.wat_scopes.specs.Spaces.{NameModel}
use Rattle.wat_instr_uses.specs.Steps.{steps_of}
use Rattle.wat_names.specs.Bodies.{expressions_in, expressions_faults, bodies_uses}
use Rattle.wat_names.specs.Defined.{defined, aliases}
use Rattle.wat_names.specs.Marks.{marks}
use Rattle.wat_names.specs.Used.{fields_uses}

-- the blocks of an expression are nested, and its labels are those of enclosing blocks
abbrev pub expression_nests : ExpressionModel → Bool
expression_nests e = nests (steps_of e.instrs)

abbrev pub expressions_nest : List ExpressionModel → Bool
expressions_nest [] = true
expressions_nest (e ∷ es) = expression_nests e && expressions_nest es

-- all names that fields use, apart from labels: outside expressions, then in expressions
abbrev pub used : List ModuleFieldModel → List NameModel
used fs = fields_uses fs ++ bodies_uses fs

-- the names that can be used
abbrev pub known : List ModuleFieldModel → List NameModel
known fs = defined fs ++ aliases fs

-- The blocks of each expression are nested. No name is defined twice in a space. Each name that is
-- used is defined, or it is an alias. No import follows a definition.
abbrev pub well_named : List ModuleFieldModel → Bool
well_named fs =
    expressions_nest (expressions_in fs)
    && (distinct (defined fs) && (all_known (known fs) (used fs) && imports_first (marks fs)))

-- a binary module has no names
abbrev pub KindIsWellNamed : ModuleKindModel → Type 0
KindIsWellNamed (text fs) = well_named fs ≡ true
KindIsWellNamed (binary ss) = Unit {0}

abbrev pub WellNamed : ModuleModel → Type 0
WellNamed m = KindIsWellNamed m.kind

-- All faults: the first of each expression, the names that are defined again, the used names that
-- aren't known, and the imports after a definition.
abbrev pub all_faults : List ModuleFieldModel → List FaultModel
all_faults fs =
    expressions_faults (expressions_in fs)
    ++ (doubled [] (defined fs) ++ (unknown (known fs) (used fs) ++ late (marks fs)))

abbrev pub kind_faults_in : ModuleKindModel → List FaultModel
kind_faults_in (text fs) = all_faults fs
kind_faults_in (binary ss) = []

-- all faults of a module
abbrev pub faults_in : ModuleModel → List FaultModel
faults_in m = kind_faults_in m.kind

abbrev pub kind_names_in : ModuleKindModel → List NameModel
kind_names_in (text fs) = defined fs
kind_names_in (binary ss) = []

-- all names that a module defines
abbrev pub names_in : ModuleModel → List NameModel
names_in m = kind_names_in m.kind

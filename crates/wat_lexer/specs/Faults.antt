-- The faults: their numbers and names.
use Rattle.std.specs.Prelude.{ℕ, List, codes}
use Rattle.wat_lexer.specs.declared.fault.Error.{Error}
use Rattle.wat_lexer.specs.declared.fault.Fault.{Fault}
use Rattle.wat_lexer.specs.declared.fault.Fault.TheVariants.{Memory, LexChar, LexString, LexComment, LexAnnotation, Unexpected, Range, Utf8, FloatLiteral, Alignment, PageSize, Operator, ParamAfterResult, IfWithoutThen, IfTooMany, HintValue, HintTwice, HintPlace, ImportMixed, ImportId, HintTarget}

abbrev pub fault_number : Fault → ℕ
fault_number Memory = 1
fault_number LexChar = 2
fault_number LexString = 3
fault_number LexComment = 4
fault_number LexAnnotation = 5
fault_number Unexpected = 6
fault_number Range = 7
fault_number Utf8 = 8
fault_number FloatLiteral = 9
fault_number Alignment = 10
fault_number PageSize = 11
fault_number Operator = 12
fault_number ParamAfterResult = 13
fault_number IfWithoutThen = 14
fault_number IfTooMany = 15
fault_number HintValue = 16
fault_number HintTwice = 17
fault_number HintPlace = 18
fault_number ImportMixed = 19
fault_number ImportId = 20
fault_number HintTarget = 21

-- the name of the variant
abbrev pub fault_name : Fault → List ℕ
fault_name Memory = codes "Memory"
fault_name LexChar = codes "LexChar"
fault_name LexString = codes "LexString"
fault_name LexComment = codes "LexComment"
fault_name LexAnnotation = codes "LexAnnotation"
fault_name Unexpected = codes "Unexpected"
fault_name Range = codes "Range"
fault_name Utf8 = codes "Utf8"
fault_name FloatLiteral = codes "FloatLiteral"
fault_name Alignment = codes "Alignment"
fault_name PageSize = codes "PageSize"
fault_name Operator = codes "Operator"
fault_name ParamAfterResult = codes "ParamAfterResult"
fault_name IfWithoutThen = codes "IfWithoutThen"
fault_name IfTooMany = codes "IfTooMany"
fault_name HintValue = codes "HintValue"
fault_name HintTwice = codes "HintTwice"
fault_name HintPlace = codes "HintPlace"
fault_name ImportMixed = codes "ImportMixed"
fault_name ImportId = codes "ImportId"
fault_name HintTarget = codes "HintTarget"

-- out of memory
abbrev pub no_memory : Error
no_memory = record { fault = Memory; span = record { offset = 0 } }

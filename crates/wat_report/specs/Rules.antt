-- The message of each fault.
use Rattle.std.specs.Prelude.{ℕ, Bool, true, false, List, codes, if◌then◌else◌}
use Rattle.wat_tokens.specs.Error.{Fault, Memory, LexChar, LexString, LexComment, LexAnnotation, Unexpected, Range, Utf8, FloatLiteral, Alignment, PageSize, Operator, ParamAfterResult, IfWithoutThen, IfTooMany, HintValue, HintTwice, HintPlace, ImportMixed, ImportId, HintTarget}

-- the message ends with the token that was found
abbrev pub names_token : Fault → Bool
names_token Unexpected = true
names_token Operator = true
names_token _ = false

-- the message without the token that was found; that of Operator depends on whether a word was found
abbrev pub rule_text : Bool → Fault → List ℕ
rule_text word Memory = codes "memory ran out"
rule_text word LexChar = codes "no token begins with this character"
rule_text word LexString =
    codes "this string isn't closed, or contains an invalid character or escape"
rule_text word LexComment = codes "this block comment isn't closed"
rule_text word LexAnnotation = codes "this annotation isn't closed"
rule_text word Unexpected = codes "not expected here: "
rule_text word Range = codes "this number is out of range"
rule_text word Utf8 = codes "this isn't valid UTF-8"
rule_text word FloatLiteral = codes "float literals aren't supported"
rule_text word Alignment = codes "an alignment must be a power of two"
rule_text word PageSize = codes "a page size must be a power of two"
rule_text word Operator =
    if word then codes "no instruction is called "
    else codes "an instruction was expected here, not "
rule_text word ParamAfterResult = codes "parameters must come before results"
rule_text word IfWithoutThen = codes "an `if` must have a group `(then ..)`"
rule_text word IfTooMany = codes "an `if` can't have another group after `(else ..)`"
rule_text word HintValue = codes "a branch hint must be one byte, 0 or 1, such as \"\\00\""
rule_text word HintTwice = codes "this instruction has a branch hint already"
rule_text word HintPlace = codes "a branch hint must be followed by an instruction"
rule_text word ImportMixed = codes "the items of an import must all have a type, or all share one"
rule_text word ImportId = codes "an identifier isn't allowed here in an import"
rule_text word HintTarget = codes "only `br_if` and `if` can have a branch hint"

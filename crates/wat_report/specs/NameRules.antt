-- The message of each fault of names, blocks and imports.
use Rattle.std.specs.Prelude.{ℕ, Bool, true, false, List, [], ◌++◌, codes, Option, None, Some, if◌then◌else◌}
use Rattle.wat_scopes.specs.declared.fault.FaultKind.{FaultKind}
use Rattle.wat_scopes.specs.declared.fault.FaultKind.TheVariants.{UnknownName, DoubledName, UnknownLabel, OtherLabel, SurplusEnd, UnclosedBlock, MisplacedElse, MisplacedCatch, LateImport}
use Rattle.wat_scopes.specs.declared.fault.NameFault.{NameFault}
use Rattle.wat_scopes.specs.declared.space.Space.{Space}
use Rattle.wat_scopes.specs.declared.space.Space.TheVariants as space
use Rattle.wat_report.specs.Found.{marked_text}

-- what an identifier of an index space denotes, with its article
abbrev pub a_noun : Space → List ℕ
a_noun space.«Type» = codes "a type"
a_noun space.Func = codes "a function"
a_noun space.Table = codes "a table"
a_noun space.Memory = codes "a memory"
a_noun space.Global = codes "a global"
a_noun space.Tag = codes "a tag"
a_noun space.Elem = codes "an element segment"
a_noun space.Data = codes "a data segment"
a_noun (space.Local n) = codes "a local"
a_noun (space.FieldAt n) = codes "a field"
a_noun (space.FieldOf i) = codes "a field"

-- the words before an identifier that its index space doesn't define
abbrev pub unknown_rule : Option Space → List ℕ
unknown_rule None = codes "no definition is called "
unknown_rule (Some space.«Type») = codes "no type is called "
unknown_rule (Some space.Func) = codes "no function is called "
unknown_rule (Some space.Table) = codes "no table is called "
unknown_rule (Some space.Memory) = codes "no memory is called "
unknown_rule (Some space.Global) = codes "no global is called "
unknown_rule (Some space.Tag) = codes "no tag is called "
unknown_rule (Some space.Elem) = codes "no element segment is called "
unknown_rule (Some space.Data) = codes "no data segment is called "
unknown_rule (Some (space.Local n)) = codes "no local is called "
unknown_rule (Some (space.FieldAt n)) = codes "the structure type has no field "
unknown_rule (Some (space.FieldOf i)) = codes "the structure type has no field "

-- the words before an identifier that its index space defines twice
abbrev pub doubled_rule : Option Space → List ℕ
doubled_rule None = codes "two definitions are called "
doubled_rule (Some space.«Type») = codes "two types are called "
doubled_rule (Some space.Func) = codes "two functions are called "
doubled_rule (Some space.Table) = codes "two tables are called "
doubled_rule (Some space.Memory) = codes "two memories are called "
doubled_rule (Some space.Global) = codes "two globals are called "
doubled_rule (Some space.Tag) = codes "two tags are called "
doubled_rule (Some space.Elem) = codes "two element segments are called "
doubled_rule (Some space.Data) = codes "two data segments are called "
doubled_rule (Some (space.Local n)) = codes "two locals are called "
doubled_rule (Some (space.FieldAt n)) = codes "two fields are called "
doubled_rule (Some (space.FieldOf i)) = codes "two fields are called "

-- the message has the identifier or the label that the fault is about
abbrev pub names_id : FaultKind → Bool
names_id UnknownName = true
names_id DoubledName = true
names_id UnknownLabel = true
names_id OtherLabel = true
names_id _ = false

-- the words before the identifier, or the whole message if it has none
abbrev pub words_before : FaultKind → Option Space → List ℕ
words_before UnknownName s = unknown_rule s
words_before DoubledName s = doubled_rule s
words_before UnknownLabel s = codes "no enclosing block has the label "
words_before OtherLabel s = []
words_before SurplusEnd s = codes "this `end` closes no block"
words_before UnclosedBlock s = codes "this block has no `end`"
words_before MisplacedElse s = codes "this `else` belongs to no `if`"
words_before MisplacedCatch s = codes "this clause belongs to no `try`"
words_before LateImport s =
    codes "an import must come before the definitions of functions, tables, memories, globals and tags"

-- the words after the identifier
abbrev pub words_after : FaultKind → List ℕ
words_after OtherLabel = codes " isn't the label of this block"
words_after _ = []

-- The message of a fault at an offset. The identifier in it is the text at the offset.
abbrev pub name_message : List ℕ → ℕ → NameFault → List ℕ
name_message text at f =
    words_before f.kind f.space
    ++ ((if names_id f.kind then marked_text text at else []) ++ words_after f.kind)

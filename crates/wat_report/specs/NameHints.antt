-- The words of the hint for a fault of names, blocks or imports.
use Rattle.std.specs.Prelude.{ℕ, Bool, true, false, ◌&&◌, not, List, [], ◌++◌, codes, filter, Option, None, Some}
use Rattle.std.specs.List.{find, list_all}
use Rattle.wat_mnemonics.specs.Prelude.{bytes_eq, is_idchar}
use Rattle.wat_lexer.specs.declared.span.Span.{Span}
use Rattle.wat_tokens.specs.Index.{name_of, span_of}
use Rattle.wat_tokens.specs.declared.index.Id.{Id}
use Rattle.wat_scopes.specs.Spaces.{same_space, space_view}
use Rattle.wat_scopes.specs.Known.{same_names}
use Rattle.wat_scopes.specs.declared.fault.FaultKind.{FaultKind}
use Rattle.wat_scopes.specs.declared.fault.FaultKind.TheVariants.{UnknownName, DoubledName, UnknownLabel, OtherLabel, SurplusEnd, UnclosedBlock, MisplacedElse, MisplacedCatch, LateImport}
use Rattle.wat_scopes.specs.declared.fault.NameFault.{NameFault}
use Rattle.wat_scopes.specs.declared.space.Name.{Name}
use Rattle.wat_scopes.specs.declared.space.Space.{Space}
use Rattle.wat_scopes.specs.declared.space.Space.TheVariants as space
use Rattle.wat_report.specs.Found.{marked_text}
use Rattle.wat_report.specs.HintWords.{nearest_words}
use Rattle.wat_report.specs.LabelHints.{block_hint, import_hint, innermost_hint, labels_hint, line_words}
use Rattle.wat_report.specs.NameRules.{a_noun}
use Rattle.wat_report.specs.Nearest.{nearest_among}

-- ---- identifiers

abbrev pub in_space : Space → Name → Bool
in_space s n = same_space (space_view n.space) (space_view s)

-- the index space has definitions of the whole module: it isn't one of locals or of fields
abbrev pub is_of_module : Space → Bool
is_of_module (space.Local n) = false
is_of_module (space.FieldAt n) = false
is_of_module (space.FieldOf i) = false
is_of_module _ = true

-- the name has the identifier of n, in another index space of the module
abbrev pub is_elsewhere : Name → Name → Bool
is_elsewhere n m =
    is_of_module m.space && (bytes_eq (name_of m.id) (name_of n.id) && not (in_space n.space m))

-- the name is in the index space, and its identifier is written without quotes
abbrev pub is_candidate : Space → Name → Bool
is_candidate s m = in_space s m && list_all is_idchar (name_of m.id)

-- the identifier without its `$`
abbrev pub identifier : Name → List ℕ
identifier n = name_of n.id

-- The identifier at the offset is one of the space o, and not of the space s.
unfoldable pub elsewhere_words : List ℕ → ℕ → Space → Space → List ℕ
elsewhere_words text at s o =
    marked_text text at ++ (codes " is " ++ (a_noun o ++ (codes ", not " ++ a_noun s)))

-- the question for the nearest identifiers of the index space of n
abbrev pub similar_words : Name → List Name → List ℕ
similar_words n names =
    nearest_words (codes "$") identifier
    (nearest_among identifier (name_of n.id) (filter (is_candidate n.space) names))

-- the words for an unknown name n, of which o is a definition in another space
abbrev pub unknown_words : List ℕ → ℕ → Name → List Name → Option Name → List ℕ
unknown_words text at n names None = similar_words n names
unknown_words text at n names (Some o) = elsewhere_words text at n.space o.space

-- the line of the first name that is equal, by its position
unfoldable pub equal_words : List ℕ → ℕ → Span → List ℕ
equal_words text at first =
    codes "the first " ++ (marked_text text at ++ line_words text (codes " is in line ") first)

abbrev pub doubled_words : List ℕ → ℕ → Option Name → List ℕ
doubled_words text at None = []
doubled_words text at (Some first) = equal_words text at (span_of first.id)

-- the identifier and the index space that the fault is about
abbrev pub name_in_space : Option Space → Option Id → Option Name
name_in_space None i = None
name_in_space (Some s) None = None
name_in_space (Some s) (Some i) = Some (record { space = s; id = i })

abbrev pub unknown_hint : List ℕ → ℕ → Option Name → List Name → List ℕ
unknown_hint text at None names = []
unknown_hint text at (Some n) names =
    unknown_words text at n names (find (is_elsewhere n) names)

abbrev pub doubled_hint : List ℕ → ℕ → Option Name → List Name → List ℕ
doubled_hint text at None names = []
doubled_hint text at (Some n) names = doubled_words text at (find (λ m. same_names m n) names)

-- ---- all faults

abbrev pub hint_of_kind : List ℕ → ℕ → NameFault → List Name → FaultKind → List ℕ
hint_of_kind text at f names UnknownName =
    unknown_hint text at (name_in_space f.space f.id) names
hint_of_kind text at f names DoubledName =
    doubled_hint text at (name_in_space f.space f.id) names
hint_of_kind text at f names UnknownLabel = labels_hint text f.note
hint_of_kind text at f names OtherLabel = block_hint text f.note
hint_of_kind text at f names SurplusEnd = codes "a folded `(block ..)` needs no `end`"
hint_of_kind text at f names UnclosedBlock =
    codes "a block ends with `end`, unless it is folded, as in `(block ..)`"
hint_of_kind text at f names MisplacedElse = innermost_hint text f.note
hint_of_kind text at f names MisplacedCatch = innermost_hint text f.note
hint_of_kind text at f names LateImport = import_hint text f.note

-- The words of the hint for a fault at an offset; `names` are the names that the module defines.
abbrev pub name_hint : List ℕ → ℕ → NameFault → List Name → List ℕ
name_hint text at f names = hint_of_kind text at f names f.kind

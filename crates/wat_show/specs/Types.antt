-- How indices and types are listed.
use Rattle.std.specs.Prelude.{ℕ, true, false, List, ◌++◌, map, flat_map, codes, decimal, if◌then◌else◌}
use Rattle.wat_core.specs.Prelude.{IndexModel, number, name, HeapTypeModel, abstract_word, concrete, exact, abstract_, RefTypeModel, ValTypeModel, FunctionTypeModel}
use Rattle.wat_types.specs.Value.{i32, i64, f32, f64, v128, ref}
use Rattle.wat_types.specs.Group.{ParamModel}

-- the number of an index, or `$` and its name
abbrev pub index_text : IndexModel → List ℕ
index_text (number n) = decimal n
index_text (name n) = codes "$" ++ n

-- a text after `front` and before `)`
abbrev pub within : List ℕ → List ℕ → List ℕ
within front text = front ++ (text ++ codes ")")

-- an index, `(exact INDEX)`, a word, or `(shared WORD)`
abbrev pub heap_text : HeapTypeModel → List ℕ
heap_text (concrete i) = index_text i
heap_text (exact i) = within (codes "(exact ") (index_text i)
heap_text (abstract_ true t) = within (codes "(shared ") (abstract_word t)
heap_text (abstract_ false t) = abstract_word t

-- `(ref null HEAP)` or `(ref HEAP)`
abbrev pub ref_text : RefTypeModel → List ℕ
ref_text r = within (if r.nullable then codes "(ref null " else codes "(ref ") (heap_text r.heap)

-- the word of a value type, or the text of a reference type
abbrev pub val_text : ValTypeModel → List ℕ
val_text i32 = codes "i32"
val_text i64 = codes "i64"
val_text f32 = codes "f32"
val_text f64 = codes "f64"
val_text v128 = codes "v128"
val_text (ref r) = ref_text r

-- a space before each type
abbrev pub types_text : List ValTypeModel → List ℕ
types_text ts = flat_map (λ t. codes " " ++ val_text t) ts

abbrev pub param_types : List ParamModel → List ValTypeModel
param_types ps = map (λ p. p.ty) ps

-- two lines: `params` with the types of the parameters, `results` with the types of the results
abbrev pub function_text : FunctionTypeModel → List ℕ
function_text f =
    codes "params" ++ (types_text (param_types f.params)
    ++ (codes "\n" ++ (codes "results" ++ (types_text f.results ++ codes "\n"))))

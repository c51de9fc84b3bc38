-- Heap types.
use Rattle.std.specs.Prelude.{ℕ, Bool, true, false, List, [], ◌∷◌, codes, refl}
use Rattle.wat_tokens.specs.Prelude.{Token, word_in, Production, one, made, where_else, group, IndexModel, index_view, index, Test, run, either_test, at_group, at_listed, at_index}
use Rattle.wat_types.specs.declared.heap.AbstractHeapType.{AbstractHeapType}
use Rattle.wat_types.specs.declared.heap.HeapType.{HeapType}
use Rattle.wat_types.specs.declared.heap.AbstractHeapType.TheVariants as word
use Rattle.wat_types.specs.declared.heap.HeapType.TheVariants as code

-- ---- abstract heap types

-- the keyword of an abstract heap type
abbrev pub abstract_word : AbstractHeapType → List ℕ
abstract_word word.Func = codes "func"
abstract_word word.Extern = codes "extern"
abstract_word word.Exn = codes "exn"
abstract_word word.Cont = codes "cont"
abstract_word word.Any = codes "any"
abstract_word word.Eq = codes "eq"
abstract_word word.Struct = codes "struct"
abstract_word word.Array = codes "array"
abstract_word word.I31 = codes "i31"
abstract_word word.NoFunc = codes "nofunc"
abstract_word word.NoExtern = codes "noextern"
abstract_word word.NoExn = codes "noexn"
abstract_word word.NoCont = codes "nocont"
abstract_word word.None = codes "none"

-- each keyword with the type that it names
abbrev pub abstract_words : List (List ℕ × AbstractHeapType)
abstract_words =
    (codes "func", word.Func) ∷ (codes "extern", word.Extern) ∷ (codes "exn", word.Exn)
    ∷ (codes "cont", word.Cont) ∷ (codes "any", word.Any)
    ∷ (codes "eq", word.Eq) ∷ (codes "struct", word.Struct) ∷ (codes "array", word.Array)
    ∷ (codes "i31", word.I31) ∷ (codes "nofunc", word.NoFunc)
    ∷ (codes "noextern", word.NoExtern) ∷ (codes "noexn", word.NoExn)
    ∷ (codes "nocont", word.NoCont) ∷ (codes "none", word.None) ∷ []

-- one of the keywords
unfoldable pub abstract_heap_type : Production AbstractHeapType
abstract_heap_type = one (word_in abstract_words) (refl, refl)

-- one of the keywords
unfoldable pub at_abstract : Test
at_abstract = at_listed abstract_words

-- ---- heap types

-- a heap type, without the positions of indices
pub data HeapTypeModel : Type 0 where
  concrete : IndexModel → HeapTypeModel
  exact : IndexModel → HeapTypeModel
  abstract_ : Bool → AbstractHeapType → HeapTypeModel

abbrev pub heap_view : HeapType → HeapTypeModel
heap_view (code.Abstract shared t) = abstract_ shared t
heap_view (code.Concrete i) = concrete (index_view i)
heap_view (code.Exact i) = exact (index_view i)

-- idx | ( exact idx ) | ( shared abstract ) | abstract
unfoldable pub heap_type : Production HeapTypeModel
heap_type =
    where_else at_index (made concrete index)
    (where_else (at_group (codes "exact")) (made exact (group (codes "exact") index))
    (where_else (at_group (codes "shared"))
    (made (λ t. abstract_ true t) (group (codes "shared") abstract_heap_type))
    (made (λ t. abstract_ false t) abstract_heap_type)))

-- an abstract word, or `(` and `shared` or `type`
abbrev pub at_heap : Test
at_heap =
    either_test at_abstract (either_test (at_group (codes "shared")) (at_group (codes "type")))

abbrev pub begins_heap : List Token → Bool
begins_heap t = run at_heap t

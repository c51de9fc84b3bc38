-- Reference types.
use Rattle.std.specs.Prelude.{ℕ, Bool, true, false, List, [], ◌∷◌, codes, Option, Some, None, refl}
use Rattle.wat_tokens.specs.Prelude.{Token, word_in, Production, one, seq, made, where_else, flag, group, Test, run, either_test, at_group, at_listed}
use Rattle.wat_types.specs.Heap.{HeapTypeModel, abstract_, heap_view, heap_type}
use Rattle.wat_types.specs.declared.heap.AbstractHeapType.{AbstractHeapType}
use Rattle.wat_types.specs.declared.heap.HeapType.{HeapType}
use Rattle.wat_types.specs.declared.reference.RefType.{RefType}
use Rattle.wat_types.specs.declared.reference.Shorthand.{Shorthand}
use Rattle.wat_types.specs.declared.heap.AbstractHeapType.TheVariants as word
use Rattle.wat_types.specs.declared.heap.HeapType.TheVariants as code

-- a reference type, without the positions of indices
pub record RefTypeModel : Type 0 where
  pub nullable : Bool
  pub heap : HeapTypeModel

abbrev pub ref_view : RefType → RefTypeModel
ref_view t = record { nullable = t.nullable; heap = heap_view t.heap }

abbrev pub shorthand_for : AbstractHeapType → Shorthand
shorthand_for t = record { 0 = t }

-- the shorthand for a nullable reference to the heap type
abbrev pub short_word : AbstractHeapType → List ℕ
short_word word.Func = codes "funcref"
short_word word.Extern = codes "externref"
short_word word.Exn = codes "exnref"
short_word word.Cont = codes "contref"
short_word word.Any = codes "anyref"
short_word word.Eq = codes "eqref"
short_word word.Struct = codes "structref"
short_word word.Array = codes "arrayref"
short_word word.I31 = codes "i31ref"
short_word word.NoFunc = codes "nullfuncref"
short_word word.NoExtern = codes "nullexternref"
short_word word.NoExn = codes "nullexnref"
short_word word.NoCont = codes "nullcontref"
short_word word.None = codes "nullref"

-- each shorthand with the heap type that it names
abbrev pub shorthand_words : List (List ℕ × Shorthand)
shorthand_words =
    (codes "funcref", shorthand_for word.Func) ∷ (codes "externref", shorthand_for word.Extern)
    ∷ (codes "exnref", shorthand_for word.Exn) ∷ (codes "contref", shorthand_for word.Cont)
    ∷ (codes "anyref", shorthand_for word.Any) ∷ (codes "eqref", shorthand_for word.Eq)
    ∷ (codes "structref", shorthand_for word.Struct) ∷ (codes "arrayref", shorthand_for word.Array)
    ∷ (codes "i31ref", shorthand_for word.I31) ∷ (codes "nullfuncref", shorthand_for word.NoFunc)
    ∷ (codes "nullexternref", shorthand_for word.NoExtern)
    ∷ (codes "nullexnref", shorthand_for word.NoExn)
    ∷ (codes "nullcontref", shorthand_for word.NoCont) ∷ (codes "nullref", shorthand_for word.None)
    ∷ []

-- one of the shorthands, as the heap type that it names
unfoldable pub shorthand : Production AbstractHeapType
shorthand = made (λ s. s.0) (one (word_in shorthand_words) (refl, refl))

-- one of the shorthands
unfoldable pub at_shorthand : Test
at_shorthand = at_listed shorthand_words

abbrev pub begins_shorthand : List Token → Bool
begins_shorthand t = run at_shorthand t

-- the reference type of a shorthand for the heap type, shared or not
abbrev pub short : Bool → AbstractHeapType → RefTypeModel
short shared t = record { nullable = true; heap = abstract_ shared t }

-- ( ref null? HeapType ) | ( shared shorthand ) | shorthand
unfoldable pub ref_type : Production RefTypeModel
ref_type =
    where_else (at_group (codes "ref"))
    (made (λ v. record { nullable = v.0; heap = v.1 })
    (group (codes "ref") (seq (flag (codes "null")) heap_type)))
    (where_else (at_group (codes "shared"))
    (made (short true) (group (codes "shared") shorthand))
    (made (short false) shorthand))

-- `(` and `ref` or `shared`
abbrev pub at_long_ref : Test
at_long_ref = either_test (at_group (codes "ref")) (at_group (codes "shared"))

abbrev pub begins_long_ref : List Token → Bool
begins_long_ref t = run at_long_ref t

-- a shorthand, or `(` and `ref` or `shared`
abbrev pub at_ref : Test
at_ref = either_test at_shorthand at_long_ref

abbrev pub begins_ref : List Token → Bool
begins_ref t = run at_ref t

-- ---- types that are not read from a text

-- the reference type of a shorthand for the heap type: nullable, not shared
abbrev pub nullable_ref : AbstractHeapType → RefType
nullable_ref t = record { nullable = true; heap = code.Abstract false t }

-- the heap type made shared, if it is abstract
abbrev pub shared_heap : HeapType → Option HeapType
shared_heap (code.Abstract shared t) = Some (code.Abstract true t)
shared_heap (code.Concrete i) = None
shared_heap (code.Exact i) = None

-- the reference to the heap type, if a heap type is given
abbrev pub ref_to : Bool → Option HeapType → Option RefType
ref_to nullable (Some h) = Some (record { nullable = nullable; heap = h })
ref_to nullable None = None

-- the reference to the shared heap type, nullable as before
abbrev pub shared_ref : RefType → Option RefType
shared_ref t = ref_to t.nullable (shared_heap t.heap)

-- How heap types, reference types and value types are written.
use Rattle.std.specs.Prelude.{◌≡◌, ℕ, Bool, true, false, List, ◌∷◌, codes, ◌⊎◌}
use Rattle.std.proofs.Common.{inl, inr}
use Rattle.wat_types.specs.Prelude.{Token, Keyword, IndexModel, begins_index, begins_group, at_listed, run, abstract_word, HeapTypeModel, concrete, exact, abstract_, RefTypeModel, ValTypeModel, i32, i64, f32, f64, ref, plain_words, short_word}
use Rattle.wat_types.specs.declared.heap.AbstractHeapType.{AbstractHeapType}
use Rattle.wat_print.specs.Form.{Test, Form, token_form, flag_form, seq_form, by, else_form, group_form, unwritten_form}
use Rattle.wat_print.specs.Index.{index_form}
use Rattle.wat_types.specs.declared.heap.AbstractHeapType.TheVariants as word

-- ---- heap types

abbrev pub OfNamed : {A : Type 0} → (A → List ℕ) → Test → Test → Type 0
OfNamed {A} word_of rest test =
    (t : A) (y : List Token) → rest y ≡ true → test (Keyword (word_of t) ∷ y) ≡ true

-- the word that names the value
abbrev pub named_form : {A : Type 0} → (A → List ℕ) → Form A
named_form word_of = token_form (λ t. Keyword (word_of t)) (λ _. true) (OfNamed word_of)

abbrev pub abstract_form : Form AbstractHeapType
abstract_form = named_form abstract_word

abbrev pub heap_parts : HeapTypeModel
    → IndexModel ⊎ (IndexModel ⊎ (AbstractHeapType ⊎ AbstractHeapType))
heap_parts (concrete i) = inl i
heap_parts (exact i) = inr (inl i)
heap_parts (abstract_ true t) = inr (inr (inl t))
heap_parts (abstract_ false t) = inr (inr (inr t))

abbrev pub heap_form : Form HeapTypeModel
heap_form =
    by heap_parts (else_form begins_index index_form
    (else_form (begins_group (codes "exact")) (group_form (codes "exact") index_form)
    (else_form (begins_group (codes "shared")) (group_form (codes "shared") abstract_form)
    abstract_form)))

-- ---- reference types

-- the shorthand, if the reference is nullable and its heap type is abstract and not shared
abbrev pub ref_side : Bool → HeapTypeModel
    → Bool × HeapTypeModel ⊎ (AbstractHeapType ⊎ AbstractHeapType)
ref_side true (abstract_ false t) = inr (inr t)
ref_side nullable h = inl (nullable, h)

abbrev pub ref_parts : RefTypeModel → Bool × HeapTypeModel ⊎ (AbstractHeapType ⊎ AbstractHeapType)
ref_parts r = ref_side r.nullable r.heap

-- ( ref null? HeapType )
abbrev pub long_form : Form (Bool × HeapTypeModel)
long_form = group_form (codes "ref") (seq_form (flag_form (codes "null")) heap_form)

abbrev pub ref_form : Form RefTypeModel
ref_form =
    by ref_parts (else_form (begins_group (codes "ref")) long_form
    (else_form (begins_group (codes "shared"))
    (unwritten_form (group_form (codes "shared") (named_form short_word)))
    (named_form short_word)))

-- ---- value types

abbrev pub is_plain : ValTypeModel → Bool
is_plain (ref r) = false
is_plain _ = true

abbrev pub plain_word : ValTypeModel → List ℕ
plain_word i32 = codes "i32"
plain_word i64 = codes "i64"
plain_word f32 = codes "f32"
plain_word f64 = codes "f64"
plain_word _ = codes "v128"

abbrev pub plain_type_form : Form ValTypeModel
plain_type_form = token_form (λ t. Keyword (plain_word t)) is_plain (OfNamed plain_word)

abbrev pub val_parts : ValTypeModel → ValTypeModel ⊎ RefTypeModel
val_parts (ref r) = inr r
val_parts t = inl t

abbrev pub val_form : Form ValTypeModel
val_form = by val_parts (else_form (λ r. run (at_listed plain_words) r) plain_type_form ref_form)

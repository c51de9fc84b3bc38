-- Laws: each type is what its keyword names.
use Rattle.std.specs.Prelude.{◌≡◌, Some, refl}
use Rattle.wat_tokens.specs.Tests.{look_up}
use Rattle.wat_types.specs.Heap.{abstract_word, abstract_words}
use Rattle.wat_types.specs.Reference.{short_word, shorthand_for, shorthand_words}
use Rattle.wat_types.specs.declared.heap.AbstractHeapType.{AbstractHeapType}
use Rattle.wat_types.specs.declared.reference.Shorthand.{Shorthand}
use Rattle.wat_types.specs.declared.heap.AbstractHeapType.TheVariants as word

pub abstract_is_named : (t : AbstractHeapType) → look_up abstract_words (abstract_word t) ≡ Some t
abstract_is_named word.Func = refl
abstract_is_named _ = refl

named_short : (t : AbstractHeapType)
    → look_up shorthand_words (short_word t) ≡ Some (shorthand_for t)
named_short word.Func = refl
named_short _ = refl

pub shorthand_is_named : (s : Shorthand) → look_up shorthand_words (short_word s.0) ≡ Some s
shorthand_is_named s = named_short s.0

-- Orderings of atomic accesses, and operands after an ordering.
use Rattle.std.specs.Prelude.{Bool, List, codes}
use Rattle.wat_types.specs.Prelude.{Token, Test, either_test, at_word, run, Production, word, seq, made, where_else}
use Rattle.wat_operands.specs.declared.ordering.Ordered.{Ordered}
use Rattle.wat_operands.specs.declared.ordering.Ordering.{Ordering}
use Rattle.wat_operands.specs.declared.ordering.Ordering.TheVariants.{AcqRel, SeqCst}

-- seqcst | acqrel
unfoldable pub ordering : Production Ordering
ordering =
    where_else (at_word (codes "seqcst")) (made (λ _. SeqCst) (word (codes "seqcst")))
    (made (λ _. AcqRel) (word (codes "acqrel")))

abbrev pub at_ordering : Test
at_ordering = either_test (at_word (codes "seqcst")) (at_word (codes "acqrel"))

abbrev pub begins_ordering : List Token → Bool
begins_ordering t = run at_ordering t

-- the ordering, and the given view of the operand after it
abbrev pub ordered_view : {T A : Type 0} → (T → A) → Ordered T → Ordering × A
ordered_view view o = (o.ordering, view o.inner)

-- Ordering, and then T
abbrev pub ordered : {A : Type 0} → Production A → Production (Ordering × A)
ordered g = seq ordering g

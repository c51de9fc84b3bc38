-- How the places of custom sections are written.
use Rattle.std.specs.Prelude.{ℕ, true, List, Option, Some, None, codes, ◌⊎◌}
use Rattle.std.proofs.Common.{inl, inr}
use Rattle.wat_core.specs.Prelude.{CustomPlace, BeforeFirst, Before, After, AfterLast, section_word}
use Rattle.wat_print_instr.specs.Prelude.{begins_word, begins_lparen, Form, word_form, by_where, else_form, option_form, paren_form, after_form, named_form}
use Rattle.wat_links.specs.declared.custom_place.CustomPlaceAnchor.{CustomPlaceAnchor}
use Rattle.wat_links.specs.declared.custom_place.CustomPlaceAnchor.TheVariants as anchor

abbrev pub section_form : Form CustomPlaceAnchor
section_form = named_form section_word

abbrev pub place_parts
    : CustomPlace → (Unit {0} ⊎ CustomPlaceAnchor) ⊎ (Unit {0} ⊎ CustomPlaceAnchor)
place_parts BeforeFirst = inl (inl tt)
place_parts (Before a) = inl (inr a)
place_parts AfterLast = inr (inl tt)
place_parts (After a) = inr (inr a)

-- the word w, or a known section
abbrev pub or_section_form : List ℕ → Form (Unit {0} ⊎ CustomPlaceAnchor)
or_section_form w = else_form (begins_word w) (word_form w) section_form

abbrev pub place_form : Form CustomPlace
place_form =
    by_where (λ _. true) place_parts (else_form (begins_word (codes "before"))
    (after_form (codes "before") (or_section_form (codes "first")))
    (after_form (codes "after") (or_section_form (codes "last"))))

abbrev pub unless_last : CustomPlace → Option CustomPlace
unless_last AfterLast = None
unless_last p = Some p

-- ( place ), or nothing after the last section
abbrev pub place_group_form : Form CustomPlace
place_group_form =
    by_where (λ _. true) unless_last (option_form begins_lparen (paren_form place_form))

-- Laws: the places of custom sections are read again.
use Rattle.std.proofs.Common.{true, codes, unwrap_or, rules, refl, arith}
use Rattle.wat_core.specs.Prelude.{section, custom_place, raw_place, BeforeFirst, Before, After, AfterLast, section_word}
use Rattle.wat_print_instr.specs.Laws.Prelude.{at_lparen, at_word, Prints, word_prints, made_prints, whole_where, else_prints, option_prints, paren_prints, after_prints, named_prints}
use Rattle.wat_links.specs.CustomPlace.{anchor_words, before, after}
use Rattle.wat_print_module.specs.CustomPlace.{section_form, place_parts, place_form, unless_last, place_group_form}
use Rattle.wat_links.specs.Laws.Named.{section_is_named}

pub section_prints : Prints section_form section
unfolding section
section_prints = named_prints anchor_words section_word (λ a. grind arith) section_is_named

pub place_prints : Prints place_form custom_place
unfolding custom_place before after
place_prints =
    whole_where (else_prints (at_word (codes "before"))
    (after_prints (else_prints (at_word (codes "first"))
    (made_prints (word_prints (codes "first") refl refl) (λ _. BeforeFirst))
    (made_prints section_prints Before) (search rules) (λ a y h. grind arith))
    (codes "before") refl refl)
    (after_prints (else_prints (at_word (codes "last"))
    (made_prints (word_prints (codes "last") refl refl) (λ _. AfterLast))
    (made_prints section_prints After) (search rules) (λ a y h. grind arith))
    (codes "after") refl refl) (search rules) (search rules)) place_parts (λ _. true)
    (λ p h. grind arith) (λ p h. grind arith) (λ v h. refl)

-- the place of a raw section
pub place_group_prints : Prints place_group_form raw_place
unfolding raw_place
place_group_prints =
    whole_where (made_prints (option_prints at_lparen (paren_prints place_prints)
    (search rules)) (λ p. unwrap_or p AfterLast)) unless_last (λ _. true) (λ p h. grind arith)
    (λ p h. grind arith) (λ v h. refl)

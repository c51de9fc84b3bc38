use Rattle.std.specs.Prelude.{[], ◌∷◌}
use Rattle.wat_print_instr.specs.Laws.Prelude.{LParen, Annotation, spell_instruction, instruction_here, ends_nothing, ends_annotation}
use Rattle.wat_print_instr.proofs.laws.instruction_is_read_again.Goals as goal

pub returns-clause-follow : goal.returns-clause-follow
returns-clause-follow c =
    λ i s f m. c.stands_before_what_may_follow.ensures.stands i (spell_instruction i) [] s
    (instruction_here i [] f ends_nothing) m

pub returns-clause-annotated : goal.returns-clause-annotated
returns-clause-annotated c =
    λ i n s f e. instruction_here i (LParen ∷ Annotation n ∷ s) f (ends_annotation n s e)

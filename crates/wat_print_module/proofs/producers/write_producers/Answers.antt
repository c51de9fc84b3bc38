use Rattle.wat_print_module.proofs.producers.write_producers.Goals as goal

pub returns : goal.returns
returns c = rw c.deref.ensures.value at c.write_section.ensures

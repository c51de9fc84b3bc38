use Rattle.wat_answers.proofs.named.checked_names.Goals as goal

pub returns : goal.returns
returns c = (
  c.in_ok-found.found,
  record {
    exact = c.in_ok-found.ensures.exact;
    faults = c.in_ok-found.ensures.faults;
    defined = c.in_ok-found.ensures.names;
  },
  c.in_ok-notices.ensures,
  c.status_of.ensures,
)

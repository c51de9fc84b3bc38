use Rattle.std.specs.Prelude.{◌≡◌, take}
use Rattle.wat_c.specs.Faults.{records_of, words_of}
use Rattle.wat_c.proofs.fault.records_of.Given as goal

abbrev pub invariant-loop-notice : goal.invariant-loop-notice
invariant-loop-notice l = record {
  faults : l.faults.items ≡ records_of 0 (take l.notice-index l.notices);
  messages : l.messages.items ≡ words_of (take l.notice-index l.notices);
}

use Rattle.std.specs.Prelude.{◌≡◌, ◌≤◌, take, count_by}
use Rattle.wat_report.specs.Prelude.{is_close, is_open, tokens_of, placed}
use Rattle.wat_report.proofs.front.groups_in.Given as goal

abbrev pub invariant-loop-at : goal.invariant-loop-at
invariant-loop-at l = record {
  begun : l.groups.begun ≡ count_by is_open (take l.at (tokens_of (placed l.tokens)));
  ended : l.groups.ended ≡ count_by is_close (take l.at (tokens_of (placed l.tokens)));
  few_begun : l.groups.begun ≤ l.at;
  few_ended : l.groups.ended ≤ l.at;
}

use Rattle.std.specs.Prelude.{◌≡◌, ◌-◌, ◌≤◌, ◌<◌, length, drop, get_or, false}
use Rattle.wat_lexer.specs.Bytes.{is_idchar}
use Rattle.wat_lexer.specs.Scan.{behind_run, Between}
use Rattle.wat_lexer.proofs.scan.strings_end.Given as goal

abbrev pub invariant-loop-i : goal.invariant-loop-i
invariant-loop-i l = record {
  same : behind_run Between (drop l.i l.text) ≡ behind_run Between (drop l.fn.from l.text);
  ascii : l.fn.from < l.i → get_or l.text (l.i - 1) 0 < 128;
  stops : l.i < length l.text → is_idchar (get_or l.text l.i 0) ≡ false;
  from : l.fn.from ≤ l.i;
  within : l.i ≤ length l.text;
}

abbrev pub decreases-loop-i : goal.decreases-loop-i
decreases-loop-i l = length l.text - l.i

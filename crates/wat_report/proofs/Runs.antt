-- Where a run of idchars and strings ends.
use Rattle.std.proofs.Common.{◌≡◌, ℕ, ◌-◌, ◌≤◌, List, length, drop, arith, length-drop}
use Rattle.wat_lexer.specs.Scan.{Between, Ends, Stuck, behind_run}
use Rattle.wat_report.specs.Found.{token_end}

rest_len : (text : List ℕ) (end : ℕ) → end ≤ length text → end ≡ length text - length (drop end text)
rest_len text end l = omega (arith, length-drop end text)

pub run_whole : (text : List ℕ) (at end : ℕ) → end ≤ length text → behind_run Between (drop at text) ≡ Ends (drop end text) → end ≡ token_end text at
unfolding token_end
run_whole text at end l e = rw e (rest_len text end l)

pub run_stuck : (text : List ℕ) (at quote : ℕ) → quote ≤ length text → behind_run Between (drop at text) ≡ Stuck (drop quote text) → quote ≡ token_end text at
unfolding token_end
run_stuck text at quote l e = rw e (rest_len text quote l)

pub ruleset run_ends = (run_whole, run_stuck)

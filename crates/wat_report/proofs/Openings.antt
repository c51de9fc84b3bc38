-- Where no group is opened.
use Rattle.std.proofs.Common.{◌≡◌, ℕ, ◌+◌, ◌-◌, ◌≤◌, List, [], length, get_or, refl, arith, Bool, true, false, ◌&&◌, nat_lt, ◌==◌, if◌then◌else◌}
use Rattle.wat_report.specs.Prelude.{get_or_past, le-ltb}
use Rattle.wat_report.specs.Around.{past_word, opened_word}
use Rattle.wat_report.specs.Found.{word_at}
use Rattle.wat_report.specs.Hints.{is_head_word}

no_paren : (text : List ℕ) (k : ℕ) → length text ≤ k → get_or text (k + 1 - 1) 0 == 40 ≡ false
no_paren text k l =
    let past : get_or text (k + 1 - 1) 0 ≡ 0 = get_or_past text (k + 1 - 1) 0 (omega (arith, l)) in
    rw past refl

no_word : (a b : Bool) (word : List ℕ) → b ≡ false → (if a && b then word else []) ≡ []
no_word true b word h = rw h refl
no_word false b word h = refl

opened_past : (text : List ℕ) (k : ℕ) → length text ≤ k → opened_word text (k + 1) ≡ []
unfolding opened_word
opened_past text k l = no_word (nat_lt 0 (k + 1)) (get_or text (k + 1 - 1) 0 == 40) (word_at text (k + 1)) (no_paren text k l)

-- at the text's end no group is opened
pub none_behind_text : (text : List ℕ) (k at : ℕ) → k ≡ past_word text at → length text ≤ k → nat_lt k (length text) ≡ is_head_word (opened_word text (past_word text at + 1))
none_behind_text text k at e l = rw (← e, opened_past text k l) (le-ltb k (length text) l)

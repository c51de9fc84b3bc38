-- Lines and members that are left out where there are no words.
use Rattle.std.proofs.Common.{◌≡◌, ℕ, ◌<◌, List, [], ◌∷◌, ◌++◌, length, refl, sym, arith, append-nil, codes}
use Rattle.wat_report.specs.Json.{json_member, json_words}
use Rattle.wat_report.specs.Report.{labelled_line}

pub labelled_none : (out label words : List ℕ) → length words ≡ 0 → out ≡ out ++ labelled_line label words
labelled_none out label [] e = sym (append-nil out)
labelled_none out label (b ∷ words) e = absurd (omega arith)

pub labelled_some : (label words : List ℕ) → 0 < length words → labelled_line label words ≡ label ++ (words ++ codes "\n")
labelled_some label [] l = absurd (omega arith)
labelled_some label (b ∷ words) l = refl

pub no_member : (out name words : List ℕ) → length words ≡ 0 → out ≡ out ++ json_words name words
unfolding json_words
no_member out name [] e = sym (append-nil out)
no_member out name (b ∷ words) e = absurd (omega arith)

pub member : (name words : List ℕ) → 0 < length words → json_words name words ≡ json_member name words
unfolding json_words
member name [] l = absurd (omega arith)
member name (b ∷ words) l = refl

pub ruleset labelled = (labelled_none, labelled_some)

pub ruleset members = (no_member, member)

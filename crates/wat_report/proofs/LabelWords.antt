-- The words for the labels of the enclosing blocks.
use Rattle.std.proofs.Common.{◌≡◌, ℕ, ◌<◌, List, [], ◌∷◌, length, ap, arith, codes, refl}
use Rattle.std.specs.List.{IsFirstAndRest}
use Rattle.wat_tokens.specs.Index.{span_of}
use Rattle.wat_tokens.specs.declared.index.Id.{Id}
use Rattle.wat_report.specs.LabelHints.{label_words, labels_begin, some_labels}

pub no_labels : (text : List ℕ) (ls : List Id) → length ls ≡ 0 → label_words text ls ≡ codes "no enclosing block has a label"
unfolding label_words
no_labels text [] e = refl
no_labels text (i ∷ ls) e = absurd (omega arith)

pub labels_from : (text : List ℕ) (ls : List Id) (i : Id) (rest : List Id) → IsFirstAndRest ls i rest → label_words text ls ≡ some_labels text (span_of i) rest
unfolding label_words
labels_from text ls i rest e = ap (label_words text) e.0

pub one_begins : (ls : List Id) → length ls ≡ 0 → labels_begin ls ≡ codes "the enclosing label is "
unfolding labels_begin
one_begins [] e = refl
one_begins (i ∷ ls) e = absurd (omega arith)

pub more_begin : (ls : List Id) → 0 < length ls → labels_begin ls ≡ codes "the enclosing labels are "
unfolding labels_begin
more_begin [] l = absurd (omega arith)
more_begin (i ∷ ls) l = refl

pub ruleset listed = (no_labels, labels_from)

pub ruleset begun = (one_begins, more_begin)

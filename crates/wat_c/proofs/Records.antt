-- One more record, and the words of one more notice.
use Rattle.std.proofs.Common.{◌≡◌, ℕ, ◌+◌, ◌<◌, List, [], ◌∷◌, ◌++◌, length, take, get_or, ap, sym, ◌∙◌, arith, add-zero, zero-add, length-append, append-nil, append_assoc}
use Rattle.std.proofs.lemmas.List.{take_more}
use Rattle.wat_c.specs.Prelude.{notice_words, record_of, records_of, words_of, Notice}
use Rattle.wat_c.specs.declared.fault.WatFault.{WatFault}

-- the words of the last begin behind those of the others
records_last : (at : ℕ) (ns : List Notice) (n : Notice) → records_of at (ns ++ n ∷ []) ≡ records_of at ns ++ record_of (at + length (words_of ns)) n ∷ []
unfolding records_of
records_last at [] n = ap (λ (k : ℕ). record_of k n ∷ []) (sym (add-zero at))
records_last at (m ∷ ns) n =
    let next = at + length (notice_words m) in
    let place : next + length (words_of ns) ≡ at + length (words_of (m ∷ ns)) = omega (arith, length-append (notice_words m) (words_of ns)) in
    ap (λ (rs : List WatFault). record_of at m ∷ rs) (records_last next ns n ∙ ap (λ (k : ℕ). records_of next ns ++ record_of k n ∷ []) place)

pub one_more : (ns : List Notice) (i : ℕ) (d : Notice) (faults : List WatFault) (messages : List ℕ) → i < length ns → faults ≡ records_of 0 (take i ns) → messages ≡ words_of (take i ns) → faults ++ record_of (length messages) (get_or ns i d) ∷ [] ≡ records_of 0 (take (i + 1) ns)
one_more ns i d faults messages l e w =
    let place : length messages ≡ 0 + length (words_of (take i ns)) = ap length w ∙ sym (zero-add (length (words_of (take i ns)))) in
    rw (take_more ns i d l, records_last 0 (take i ns) (get_or ns i d), ← e, ← place)

words_last : (ns : List Notice) (n : Notice) → words_of (ns ++ n ∷ []) ≡ words_of ns ++ notice_words n
words_last [] n = append-nil (notice_words n)
words_last (m ∷ ns) n = ap (λ (xs : List ℕ). notice_words m ++ xs) (words_last ns n) ∙ sym (append_assoc (notice_words m) (words_of ns) (notice_words n))

pub words_more : (ns : List Notice) (i : ℕ) (d : Notice) (messages : List ℕ) → i < length ns → messages ≡ words_of (take i ns) → messages ++ notice_words (get_or ns i d) ≡ words_of (take (i + 1) ns)
words_more ns i d messages l w = rw (take_more ns i d l, words_last (take i ns) (get_or ns i d), ← w)

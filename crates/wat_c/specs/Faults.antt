-- Faults as records of numbers.
use Rattle.std.specs.Prelude.{◌≡◌, ◌⊎◌, ◌+◌, ◌++◌, ◌∷◌, [], ℕ, ℤ, pos, List, flat_map, length}
use Rattle.wat_answers.specs.Prelude.{ChecksBytes, further_words, more_words}
use Rattle.wat_report.specs.Kinds.{kind_number}
use Rattle.wat_c.specs.Answers.{Filled}
use Rattle.wat_c.specs.declared.fault.WatFault.{WatFault}
use Rattle.wat_answers.specs.declared.notice.Notice.{Notice}
use Rattle.wat_answers.specs.declared.task.Extent.{Extent}
use Rattle.wat_answers.specs.declared.notice.Notice.TheVariants.{Found, More, Further}

-- the words of a notice: of a diagnostic the message, the hint and what could stand there
abbrev pub notice_words : Notice → List ℕ
notice_words (Found d) = d.message.items ++ (d.hint.items ++ d.expected.items)
notice_words (More n) = more_words n
notice_words (Further n) = further_words n

-- the record of a number of further errors, whose words begin at the offset and have this length; it
-- has fault 0 and no place
abbrev pub number_record : ℕ → ℕ → WatFault
number_record at n = record {
  offset = 0;
  length = 0;
  line = 0;
  column = 0;
  fault = 0;
  message = at;
  hint = at + n;
  expected = at + n;
  end = at + n;
}

-- the record of a notice whose words begin at the offset
abbrev pub record_of : ℕ → Notice → WatFault
record_of at (Found d) = record {
  offset = d.offset;
  length = d.length;
  line = d.place.line;
  column = d.place.column;
  fault = kind_number d.kind;
  message = at;
  hint = at + length d.message.items;
  expected = at + length d.message.items + length d.hint.items;
  end = at + length (d.message.items ++ (d.hint.items ++ d.expected.items));
}
record_of at (More n) = number_record at (length (more_words n))
record_of at (Further n) = number_record at (length (further_words n))

-- the records of notices whose words are one after the other, the first at the offset
unfoldable pub records_of : ℕ → List Notice → List WatFault
records_of at [] = []
records_of at (n ∷ ns) = record_of at n ∷ records_of (at + length (notice_words n)) ns

-- the words of notices, one after the other
abbrev pub words_of : List Notice → List ℕ
words_of ns = flat_map notice_words ns

-- What a check of the text finds is told as records and words, and its status is returned; or memory
-- ran out, 2 is returned, and nothing was written.
abbrev pub FaultsAnswered : Extent → List ℕ → ℤ → List WatFault → List WatFault → ℕ → ℕ → List ℕ → List ℕ
    → ℕ → ℕ → Type 0
FaultsAnswered extent text result faults_before faults count_before count before after needed_before needed
    =
    ((ns : List Notice) × (status : ℕ) × ChecksBytes extent text ns status × (result ≡ pos status)
    × Filled (records_of 0 ns) faults_before faults count × Filled (words_of ns) before after needed)
    ⊎ ((result ≡ pos 2) × (faults ≡ faults_before) × (count ≡ count_before) × (after ≡ before)
    × (needed ≡ needed_before))

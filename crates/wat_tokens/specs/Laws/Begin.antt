-- Laws: words of a table: as the next token, and as read.
use Rattle.std.proofs.Common.{◌≡◌, ℕ, false, List, [], ◌∷◌, Some, None, is_some, refl, ap}
use Rattle.wat_tokens.specs.Laws.Prelude.{Token, Keyword, as_keyword, word_in, look_up, some_is, one_reads, with_rest, run, at_listed}

-- ---- by the next word

module _ {A : Type 0} (table : List (List ℕ × A)) where
  pub begins_table : (t : List Token) (w : List ℕ) (r : List Token)
      → one_reads as_keyword t ≡ Some (w, r)
      → run (at_listed table) t ≡ is_some (look_up table w)
  begins_table [] w r e = absurd cc
  begins_table (Keyword k ∷ t) w r e =
      ap (λ (u : List ℕ × List Token). is_some (look_up table u.0)) (some_is (k, t) (w, r) e)
  begins_table (_ ∷ t) w r e = absurd cc

  pub begins_no_table : (t : List Token) → one_reads as_keyword t ≡ None
      → run (at_listed table) t ≡ false
  begins_no_table [] e = refl
  begins_no_table (Keyword k ∷ t) e = absurd cc
  begins_no_table (_ ∷ t) e = refl

  pub reads_table : (t : List Token) (w : List ℕ) (r : List Token)
      → one_reads as_keyword t ≡ Some (w, r)
      → one_reads (word_in table) t ≡ with_rest (look_up table w) r
  reads_table [] w r e = absurd cc
  reads_table (Keyword k ∷ t) w r e =
      ap (λ (u : List ℕ × List Token). with_rest (look_up table u.0) u.1) (some_is (k, t) (w, r) e)
  reads_table (_ ∷ t) w r e = absurd cc

  pub reads_no_table : (t : List Token) → one_reads as_keyword t ≡ None
      → one_reads (word_in table) t ≡ None
  reads_no_table [] e = refl
  reads_no_table (Keyword k ∷ t) e = absurd cc
  reads_no_table (_ ∷ t) e = refl

-- whether the next token is a word of a table, by the next keyword
pub ruleset table_begins = (begins_table, begins_no_table)

-- the value read by a table, by the next keyword
pub ruleset table_reads = (reads_table, reads_no_table)

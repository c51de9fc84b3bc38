-- The value that the production of a mnemonic reads at a word.
use Rattle.std.proofs.Common.{◌≡◌, ℕ, List, [], ◌∷◌, Some, None, refl, ap, sym, ◌∙◌}
use Rattle.wat_mnemonics.specs.Prelude.{bytes_eq, bytes_decides, Token, Keyword, some_of, by_test, some_is, one_reads, op_word, all_ops, first_with, mnemonic_of, mnemonic_reads, op_of_word}
use Rattle.wat_tokens.specs.Tests.{as_keyword}
use Rattle.wat_mnemonics.specs.declared.op.Op.{Op}

first_none : (w : List ℕ) (xs : List Op) → ((x : Op) → op_word x ≡ w → ⊥) → first_with w xs ≡ None
first_none w [] f = refl
first_none w (y ∷ ys) f =
    by_test (bytes_eq (op_word y) w)
    (λ t. absurd (f y ((bytes_decides (op_word y) w).0 t)))
    (λ t. rw t (first_none w ys f))

mnemonic_of_none : (w : List ℕ) → ((x : Op) → op_word x ≡ w → ⊥) → mnemonic_of w ≡ None
unfolding mnemonic_of
mnemonic_of_none w f = first_none w all_ops f

-- ---- by the next word

pub reads_word : (t : List Token) (w : List ℕ) (r : List Token) (x : Op) → one_reads as_keyword t ≡ Some (w, r) → op_word x ≡ w → mnemonic_reads t ≡ Some (x, r)
reads_word [] w r x e h = absurd cc
reads_word (Keyword k ∷ t) w r x e h =
    let p = some_is (k, t) (w, r) e in
    rw (op_of_word x k (h ∙ sym (ap (λ (u : List ℕ × List Token). u.0) p))) (ap (λ (u : List ℕ × List Token). some_of (x, u.1)) p)
reads_word (_ ∷ t) w r x e h = absurd cc

pub reads_other_word : (t : List Token) (w : List ℕ) (r : List Token) → one_reads as_keyword t ≡ Some (w, r) → ((x : Op) → op_word x ≡ w → ⊥) → mnemonic_reads t ≡ None
reads_other_word [] w r e f = refl
reads_other_word (Keyword k ∷ t) w r e f =
    let p = some_is (k, t) (w, r) e in
    rw (mnemonic_of_none k (λ x h. f x (h ∙ ap (λ (u : List ℕ × List Token). u.0) p))) refl
reads_other_word (_ ∷ t) w r e f = refl

pub reads_no_word : (t : List Token) → one_reads as_keyword t ≡ None → mnemonic_reads t ≡ None
reads_no_word [] e = refl
reads_no_word (Keyword k ∷ t) e = absurd cc
reads_no_word (_ ∷ t) e = refl

-- if the next token isn't the word of an instruction
pub ruleset reads_nothing = (reads_other_word, reads_no_word)

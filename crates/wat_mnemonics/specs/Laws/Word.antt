-- Laws: the word of an instruction, as a production.
use Rattle.std.proofs.Common.{◌≡◌, ℕ, suc, zero, ◌<◌, ◌≤◌, List, [], ◌∷◌, ◌++◌, length, Option, Some, None, refl, get_or, ap, sym, ◌∙◌, arith, subst}
use Rattle.wat_tokens.specs.Laws.Prelude.{bytes_eq, bytes_decides, Token, Keyword, AreBalanced, Front, by_test, some_is, none_is_not, with_rest}
use Rattle.wat_mnemonics.specs.Ops.{op_word}
use Rattle.wat_mnemonics.specs.Order.{first}
use Rattle.wat_mnemonics.specs.TableIndex.{table_index}
use Rattle.wat_mnemonics.specs.declared.op.Op.{Op}
use Rattle.wat_mnemonics.specs.Table.{all_ops}
use Rattle.wat_mnemonics.specs.Word.{first_with, mnemonic_of, mnemonic_spells, mnemonic_reads}
use Rattle.wat_mnemonics.specs.Laws.TableIndex.{there, index_below, one_word, table_length}

some_op : (x y : Op) → Some x ≡ Some y → x ≡ y
some_op x y e = cc

first_is : (w : List ℕ) (xs : List Op) (x : Op) → first_with w xs ≡ Some x
    → op_word x ≡ w
first_is w [] x e = absurd cc
first_is w (y ∷ ys) x e =
    by_test (bytes_eq (op_word y) w)
    (λ k. (let e2 : Some y ≡ Some x = rw k at e in subst (λ (u : Op). op_word u ≡ w)
    (some_op y x e2) ((bytes_decides (op_word y) w).0 k)))
    (λ k. first_is w ys x (rw k at e))

first_there : (w : List ℕ) (xs : List Op) (k : ℕ) → k < length xs
    → op_word (get_or xs k first) ≡ w → (x : Op) × (first_with w xs ≡ Some x)
first_there w [] k l e = absurd (omega arith)
first_there w (y ∷ ys) zero l e = (y, rw ((bytes_decides (op_word y) w).1 e) refl)
first_there w (y ∷ ys) (suc k) l e =
    let p = first_there w ys k (omega arith) e in
    by_test (bytes_eq (op_word y) w)
    (λ t. (let q : first_with w (y ∷ ys) ≡ Some y = rw t refl in (y, q)))
    (λ t. (let q : first_with w (y ∷ ys) ≡ Some p.0 = rw t p.1 in (p.0, q)))

pub mnemonic_of_is : (w : List ℕ) (x : Op) → mnemonic_of w ≡ Some x → op_word x ≡ w
unfolding mnemonic_of
mnemonic_of_is w x e = first_is w all_ops x e

pub op_of_word : (x : Op) (w : List ℕ) → op_word x ≡ w → mnemonic_of w ≡ Some x
unfolding mnemonic_of
op_of_word x w e =
    let p = first_there w all_ops (table_index x)
    (let l = table_length in let b = index_below x in omega arith) (ap op_word (there x) ∙ e)
    in
    p.1 ∙ ap (λ (u : Op). Some u) (one_word p.0 x (first_is w all_ops p.0 p.1 ∙ sym e))

-- ---- the production

found_sound : (w : List ℕ) (o : Option Op) (r : List Token) (y : Op × List Token)
    → mnemonic_of w ≡ o
    → with_rest o r ≡ Some y → Front mnemonic_spells (Keyword w ∷ r) y
found_sound w (Some x) r y k e =
    subst (λ (z : Op × List Token). Front mnemonic_spells (Keyword w ∷ r) z)
    (some_is (x, r) y e)
    (Keyword w ∷ [], refl, ap (λ (u : List ℕ). Keyword u ∷ []) (sym (mnemonic_of_is w x k)))
found_sound w None r y k e = none_is_not y e

pub mnemonic_sound : (t : List Token) (x : Op × List Token) → mnemonic_reads t ≡ Some x
    → Front mnemonic_spells t x
mnemonic_sound [] x e = none_is_not x e
mnemonic_sound (Keyword w ∷ t) x e = found_sound w (mnemonic_of w) t x refl e
mnemonic_sound (_ ∷ t) x e = none_is_not x e

pub mnemonic_complete : (x : Op) (c r : List Token) → mnemonic_spells x c r
    → mnemonic_reads (c ++ r) ≡ Some (x, r)
mnemonic_complete x c r s = rw s (rw (op_of_word x (op_word x) refl) refl)

pub mnemonic_takes : (x : Op) (c r : List Token) → mnemonic_spells x c r → 1 ≤ length c
mnemonic_takes x c r s = rw s (omega arith)

pub mnemonic_balanced : (x : Op) (c r : List Token) → mnemonic_spells x c r → AreBalanced c
mnemonic_balanced x c r s = rw s refl

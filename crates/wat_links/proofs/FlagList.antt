-- The flags that are still to be read, joined with the flags before them.
use Rattle.std.proofs.Common.{◌≡◌, ◌<◌, ℕ, Bool, true, false, List, ◌∷◌, length, Some, None, refl, ap, ◌∙◌, fold}
use Rattle.wat_links.specs.Prelude.{bit_or, Token, ends, more, Read, bind, flag_list, symbol_flags, flag_bits, flag_bits_consumes}
use Rattle.wat_tokens.specs.Laws.Production.{less_left}
use Rattle.wat_tokens.specs.Laws.Many.{many_step, many_stop, many_fails}

pub more_left : (t : List Token) (b : Bool) → b ≡ ends t → b ≡ false → more t ≡ true
more_left t b e f = rw (← e, f) refl

pub none_more : (t : List Token) (b : Bool) → b ≡ ends t → b ≡ true → more t ≡ false
none_more t b e f = rw (← e, f) refl

-- all flags, joined with n
abbrev pub joined_with : ℕ → Read (List ℕ) → Read ℕ
joined_with n read = bind read (λ ns r. Some (fold bit_or n ns, r))

abbrev pub flags_from : ℕ → List Token → Read ℕ
flags_from n t = joined_with n (flag_list.reads t)

pub flags_begin : (t : List Token) → flags_from 0 t ≡ symbol_flags.reads t
unfolding symbol_flags
flags_begin t = refl

joined_step : (n m : ℕ) (read : Read (List ℕ)) → joined_with n (bind read (λ ns r. Some (m ∷ ns, r))) ≡ joined_with (bit_or n m) read
joined_step n m (Some x) = refl
joined_step n m None = refl

pub flags_go_on : (n m : ℕ) (t r : List Token) → more t ≡ true → flag_bits.reads t ≡ Some (m, r) → flags_from n t ≡ flags_from (bit_or n m) r
unfolding flag_list
flags_go_on n m t r k e = ap (λ (u : Read (List ℕ)). joined_with n u) (many_step more flag_bits flag_bits_consumes t m r k e) ∙ joined_step n m (flag_list.reads r)

pub flags_end : (n : ℕ) (t : List Token) → more t ≡ false → flags_from n t ≡ Some (n, t)
unfolding flag_list
flags_end n t k = ap (λ (u : Read (List ℕ)). joined_with n u) (many_stop more flag_bits t k)

pub flags_fail : (n : ℕ) (t : List Token) → more t ≡ true → flag_bits.reads t ≡ None → flags_from n t ≡ None
unfolding flag_list
flags_fail n t k e = ap (λ (u : Read (List ℕ)). joined_with n u) (many_fails more flag_bits t k e)

pub flags_less : (m : ℕ) (t r : List Token) → flag_bits.reads t ≡ Some (m, r) → length r < length t
flags_less m t r e = less_left flag_bits t m r flag_bits_consumes e

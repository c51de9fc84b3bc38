-- How constants of 128 bits and shuffled lanes are written.
use Rattle.std.specs.Prelude.{ℕ, ℤ, true, false, List, [], codes, flat_map, ◌⊎◌}
use Rattle.std.proofs.Common.{inl, inr}
use Rattle.wat_expr.specs.Prelude.{begins_word, I8x16Shuffle, V128Const, I8x16, I16x8, I32x4, I64x2, F32x4}
use Rattle.wat_operands.specs.declared.vector.V128Const.TheVariants.{F64x2}
use Rattle.wat_print.specs.Form.{any, Form, word_form, seq_form, by, else_form}
use Rattle.wat_print_instr.specs.Numbers.{signed_form, unsigned_form, printable_number_of}

-- n values of one token each
abbrev pub number_of_form : {A : Type 0} → ℕ → Form A → Form (List A)
number_of_form n p = record {
  spell = flat_map p.spell;
  printable = printable_number_of n p.printable;
  ready = printable_number_of n p.printable;
  follows = any;
  empty = true;
  balanced = true;
  Fronts = λ rest. p.Fronts any;
}

-- no value can be written
abbrev pub never_form : {A : Type 0} → Form A
never_form = record {
  spell = λ _. [];
  printable = λ _. false;
  ready = λ _. false;
  follows = any;
  empty = false;
  balanced = true;
  Fronts = λ rest test. Unit {0};
}

-- the word of a shape, and the lanes
abbrev pub Lanes : Type 0
Lanes = Unit {0} × List ℤ

abbrev pub lanes_form : List ℕ → ℕ → ℕ → Form Lanes
lanes_form w n bits = seq_form (word_form w) (number_of_form n (signed_form bits))

-- no tokens spell floating-point numbers
abbrev pub vector_parts : V128Const → Lanes ⊎ (Lanes ⊎ (Lanes ⊎ (Lanes ⊎ Unit {0})))
vector_parts (I8x16 zs) = inl (tt, zs)
vector_parts (I16x8 zs) = inr (inl (tt, zs))
vector_parts (I32x4 zs) = inr (inr (inl (tt, zs)))
vector_parts (I64x2 zs) = inr (inr (inr (inl (tt, zs))))
vector_parts (F32x4 xs) = inr (inr (inr (inr tt)))
vector_parts (F64x2 xs) = inr (inr (inr (inr tt)))

abbrev pub vector_form : Form V128Const
vector_form =
    by vector_parts (else_form (begins_word (codes "i8x16")) (lanes_form (codes "i8x16") 16 8)
    (else_form (begins_word (codes "i16x8")) (lanes_form (codes "i16x8") 8 16)
    (else_form (begins_word (codes "i32x4")) (lanes_form (codes "i32x4") 4 32)
    (else_form (begins_word (codes "i64x2")) (lanes_form (codes "i64x2") 2 64) never_form))))

abbrev pub shuffle_lanes : I8x16Shuffle → List ℕ
shuffle_lanes s = s.lanes

abbrev pub shuffle_form : Form I8x16Shuffle
shuffle_form = by shuffle_lanes (number_of_form 16 (unsigned_form 8))

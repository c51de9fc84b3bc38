-- No opcode is a prefix of another opcode: the first bytes determine the instruction.
use Rattle.std.proofs.Common.{◌≡◌, ℕ, ◌+◌, ◌-◌, ◌*◌, nat_lt, nat_eq, if◌then◌else◌, List, [], ◌∷◌, ◌++◌, get_or, refl, sym, ◌∙◌, ap, subst, Option, Some, None, ◌==◌, position, unwrap_or}
use Rattle.wat_mnemonics.specs.Prelude.{append-nil, op_opcode, bytes, table_index, scalar_opcode, vector_opcode, all_ops}
use Rattle.wat_mnemonics.specs.Laws.TableIndex.{one_index}
use Rattle.wat_mnemonics.specs.declared.op.Op.{Op}
use Rattle.wat_mnemonics.specs.declared.scalar.ScalarOp.{ScalarOp}
use Rattle.wat_mnemonics.specs.declared.vector.VectorOp.{VectorOp}
use Rattle.wat_mnemonics.specs.declared.op.Op.TheVariants as h
use Rattle.wat_mnemonics.specs.declared.scalar.ScalarOp.TheVariants as scalar
use Rattle.wat_mnemonics.specs.declared.vector.VectorOp.TheVariants as vector

abbrev tail : List ℕ → List ℕ
tail [] = []
tail (x ∷ xs) = xs

-- the LEB128 number at the beginning
abbrev number_of : List ℕ → ℕ
number_of r = if nat_lt (get_or r 0 0) 128 then get_or r 0 0 else (get_or r 0 0 - 128) + 128 * get_or r 1 0

-- the number of the opcode at the beginning: b for one byte b, 256 + n for FC and n, 264 + n for FD and n
abbrev code_of : List ℕ → ℕ
code_of r = if nat_eq (get_or r 0 0) 0xfd then 264 + number_of (tail r) else if nat_eq (get_or r 0 0) 0xfc then 256 + get_or (tail r) 0 0 else get_or r 0 0

-- a number that no opcode has stands for no opcode
abbrev number_of_opcode : Option (List ℕ) → ℕ
number_of_opcode None = 1024
number_of_opcode (Some b) = code_of b

-- the index of the instruction with the opcode
abbrev index_of_opcode : ℕ → ℕ
index_of_opcode n = unwrap_or (position (λ x. number_of_opcode (bytes (op_opcode x)) == n) all_ops) 0

-- the bytes of an opcode, before any other bytes, determine the index
abbrev Tells : Option (List ℕ) → List ℕ → ℕ → Type 0
Tells None d n = n ≡ n
Tells (Some b) d n = index_of_opcode (code_of (b ++ d)) ≡ n

scalar_tells : (x : ScalarOp) (d : List ℕ) → Tells (bytes (scalar_opcode x)) d (table_index (h.Scalar x))
scalar_tells x d = elim x as (λ y. Tells (bytes (scalar_opcode y)) d (table_index (h.Scalar y))) [ scalar.unreachable ↦ refl | _ ↦ refl ]

vector_tells : (x : VectorOp) (d : List ℕ) → Tells (bytes (vector_opcode x)) d (table_index (h.Vector x))
vector_tells x d = elim x as (λ y. Tells (bytes (vector_opcode y)) d (table_index (h.Vector y))) [ vector.i8x16_swizzle ↦ refl | _ ↦ refl ]

told : (o : Option (List ℕ)) (b d : List ℕ) (n : ℕ) → o ≡ Some b → Tells o d n → index_of_opcode (code_of (b ++ d)) ≡ n
told None b d n e t = absurd cc
told (Some a) b d n e t = subst (λ (l : List ℕ). index_of_opcode (code_of (l ++ d)) ≡ n) (same a b e) t
  where
    same : (a b : List ℕ) → Some a ≡ Some b → a ≡ b
    same a b e = cc

op_told : (x : Op) (b d : List ℕ) → bytes (op_opcode x) ≡ Some b → index_of_opcode (code_of (b ++ d)) ≡ table_index x
op_told (h.Scalar x) b d e = told (bytes (scalar_opcode x)) b d (table_index (h.Scalar x)) e (scalar_tells x d)
op_told (h.Vector x) b d e = told (bytes (vector_opcode x)) b d (table_index (h.Vector x)) e (vector_tells x d)
op_told _ b d e = absurd (no_bytes b e)
  where
    no_bytes : (b : List ℕ) → None ≡ Some b → ⊥
    no_bytes b e = cc

pub one_opcode : (x y : Op) (b d : List ℕ) → bytes (op_opcode x) ≡ Some b → bytes (op_opcode y) ≡ Some (b ++ d) → x ≡ y
one_opcode x y b d ex ey =
    one_index x y (sym (op_told x b d ex) ∙ ap (λ (l : List ℕ). index_of_opcode (code_of l)) (sym (append-nil (b ++ d))) ∙ op_told y (b ++ d) [] ey)

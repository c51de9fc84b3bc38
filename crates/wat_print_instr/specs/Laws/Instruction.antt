-- Laws: round trips of instructions.
use Rattle.std.proofs.Common.{◌≡◌, ℕ, suc, zero, ◌<◌, Bool, true, false, not, ◌&&◌, ◌==◌, List, [], ◌∷◌, ◌++◌, codes, Option, Some, None, length, rules, refl, ap, subst, sym, ◌∙◌, get_or, arith}
use Rattle.std.proofs.lemmas.Bool.{not_from_false}
use Rattle.wat_expr.specs.Prelude.{bytes_eq, and_parts, eqb-true, and_from, Token, LParen, Keyword, Annotation, begins_index, made, Production, begins_word, begins_catch, begins_handler, goes_on, array_follows, begins_with, begins_ordering, result_follows, access_align, atomic_access_align, rmw_access_align, lane_access_align, there, op_word, op_row, op_of_row, all_ops, Op, InstructionModel, instr_of, instruction, Operand, operand, nothing, block, one_index, two_indices, branches, call, chosen, access, ordered_index, ordered_indices, lane, heap, sized, reference, cast, integer, float, fence, vector, shuffled, caught, resumed, thrown, not-true}
use Rattle.wat_print.specs.Laws.Prelude.{Test, Form, blank_form, each, spell_option, Prints, Nests, Passes, WellFormed, is_given, is_keyword, prints_only, OnlyPrintable, given_parts, index_prints, ref_prints, put_both, same_number}
use Rattle.wat_mnemonics.specs.Laws.TableIndex.{index_below, table_length}
use Rattle.wat_mnemonics.specs.TableIndex.{table_index}
use Rattle.wat_instr.specs.Operand.{label, lane_access}
use Rattle.wat_print.specs.Laws.Reference.{heap_prints}
use Rattle.wat_tokens.specs.Followed.{blank}
use Rattle.wat_mnemonics.specs.Order.{first}
use Rattle.wat_print.specs.Laws.Parts.{well_formed_word}
use Rattle.wat_print_instr.specs.FoldedForm.{takes_catches}
use Rattle.wat_print_instr.specs.InstructionForm.{found_nothing, found_block, found_label, found_one_index, found_two_indices, found_branches, found_call, found_chosen, found_access, found_ordered_index, found_ordered_indices, found_lane_access, found_lane, found_heap, found_sized, found_reference, found_cast, found_integer, found_float, found_fence, found_vector, found_shuffled, found_caught, found_resumed, found_thrown, passes, found_form, operand_form, spell_instruction, printable_instruction}
use Rattle.wat_print_instr.specs.Laws.Access.{access_prints, fence_prints, ordered_prints, atomic_prints, lane_prints, lane_access_prints}
use Rattle.wat_print_instr.specs.Laws.Control.{EndsBlock, block_prints, call_prints, end_label_prints, select_prints, branch_prints, try_prints, resume_prints, throw_prints}
use Rattle.wat_print_instr.specs.Laws.Numbers.{halves_32, halves_64, signed_prints}
use Rattle.wat_print_instr.specs.Laws.Indices.{index_or_0_prints, pair_prints, init_prints, copy_prints, sized_prints, br_table_prints}
use Rattle.wat_print_instr.specs.Laws.Vectors.{vector_prints, shuffle_prints, none_prints}
use Rattle.wat_mnemonics.specs.declared.op.Op.TheVariants as ops
use Rattle.wat_print.specs.WellFormed as well_formed

-- ---- an operand is made of the value that is found in it

pub record Holds {A : Type 0} (make : A → Operand) (from : Operand → Option A) : Type 0 where
  pub back : (v : A) → from (make v) ≡ Some v
  pub made_of : (o : Operand) (v : A) → from o ≡ Some v → make v ≡ o

block_held : Holds block found_block
block_held = record { back = λ v. refl; made_of = λ o v e. grind arith }

label_held : Holds label found_label
label_held = record { back = λ v. refl; made_of = λ o v e. grind arith }

one_index_held : Holds one_index found_one_index
one_index_held = record { back = λ v. refl; made_of = λ o v e. grind arith }

two_indices_held : Holds two_indices found_two_indices
two_indices_held = record { back = λ v. refl; made_of = λ o v e. grind arith }

branches_held : Holds branches found_branches
branches_held = record { back = λ v. refl; made_of = λ o v e. grind arith }

call_held : Holds call found_call
call_held = record { back = λ v. refl; made_of = λ o v e. grind arith }

chosen_held : Holds chosen found_chosen
chosen_held = record { back = λ v. refl; made_of = λ o v e. grind arith }

access_held : Holds access found_access
access_held = record { back = λ v. refl; made_of = λ o v e. grind arith }

ordered_index_held : Holds ordered_index found_ordered_index
ordered_index_held = record { back = λ v. refl; made_of = λ o v e. grind arith }

ordered_indices_held : Holds ordered_indices found_ordered_indices
ordered_indices_held = record { back = λ v. refl; made_of = λ o v e. grind arith }

lane_access_held : Holds lane_access found_lane_access
lane_access_held = record { back = λ v. refl; made_of = λ o v e. grind arith }

lane_held : Holds lane found_lane
lane_held = record { back = λ v. refl; made_of = λ o v e. grind arith }

heap_held : Holds heap found_heap
heap_held = record { back = λ v. refl; made_of = λ o v e. grind arith }

sized_held : Holds sized found_sized
sized_held = record { back = λ v. refl; made_of = λ o v e. grind arith }

reference_held : Holds reference found_reference
reference_held = record { back = λ v. refl; made_of = λ o v e. grind arith }

cast_held : Holds cast found_cast
cast_held = record { back = λ v. refl; made_of = λ o v e. grind arith }

integer_held : Holds integer found_integer
integer_held = record { back = λ v. refl; made_of = λ o v e. grind arith }

float_held : Holds float found_float
float_held = record { back = λ v. refl; made_of = λ o v e. grind arith }

fence_held : Holds fence found_fence
fence_held = record { back = λ v. refl; made_of = λ o v e. grind arith }

vector_held : Holds vector found_vector
vector_held = record { back = λ v. refl; made_of = λ o v e. grind arith }

shuffled_held : Holds shuffled found_shuffled
shuffled_held = record { back = λ v. refl; made_of = λ o v e. grind arith }

caught_held : Holds caught found_caught
caught_held = record { back = λ v. refl; made_of = λ o v e. grind arith }

resumed_held : Holds resumed found_resumed
resumed_held = record { back = λ v. refl; made_of = λ o v e. grind arith }

thrown_held : Holds thrown found_thrown
thrown_held = record { back = λ v. refl; made_of = λ o v e. grind arith }

-- ---- operands

-- the rest begins with neither word of an access, and isn't mistaken for a group of `type`
abbrev pub EndsAccess : List Token → Type 0
EndsAccess r =
    (begins_with (codes "offset=") r ≡ false) × (begins_with (codes "align=") r ≡ false)
    × (begins_word (codes "type") r ≡ false) × (array_follows r ≡ false)

-- the tokens r may follow the operand of h, and aren't read as a part of the operand
pub record EndsOperand (h : Op) (r : List Token) : Type 0 where
  pub no_index : begins_index r ≡ false
  pub no_lane : goes_on r ≡ false
  pub no_ordering : begins_ordering r ≡ false
  pub no_result : result_follows r ≡ false
  pub no_catch : takes_catches h ≡ true → begins_catch r ≡ false
  pub no_handler : begins_handler r ≡ false
  pub access : EndsAccess r
  pub block : EndsBlock r

pub ends_nothing : {h : Op} → EndsOperand h []
ends_nothing = search rules

-- a group that begins with an annotation other than `@name`
pub ends_annotation : {h : Op} (n : List ℕ) (x : List Token)
    → bytes_eq n (codes "name") ≡ false → EndsOperand h (LParen ∷ Annotation n ∷ x)
ends_annotation n x e = search rules

-- an operand that is made of a value
module _ {A : Type 0} {form : Form A} {g : Production A} {make : A → Operand}
    {from : Operand → Option A} (held : Holds make from) (p : Prints form g)
    (balanced : form.balanced ≡ true)
  where
    found_nests : (o : Option A) → passes form.ready o ≡ true
        → WellFormed (spell_option form.spell o)
    found_nests (Some v) h =
        subst (λ (b : Bool). Nests b (form.spell v)) balanced (p.nests v h)
    found_nests None h = absurd cc

    found_front : (rest test : Test) → form.Fronts rest test → (o : Option A) (r : List Token)
        → passes form.ready o ≡ true → rest r ≡ true → Passes form.empty test r
        → test (spell_option form.spell o ++ r) ≡ true
    found_front rest test f (Some v) r h i e = p.front rest test f v r h i e
    found_front rest test f None r h i e = absurd cc

    found_here : (o : Operand) (x : Option A) (r : List Token) → from o ≡ x
        → passes form.ready x ≡ true → form.follows r ≡ true
        → (made make g).spells o (spell_option form.spell x) r
    found_here o (Some v) r e h k = (v, p.here v r h k, refl, held.made_of o v e)
    found_here o None r e h k = absurd cc

    found_only : (o : Operand) (c r : List Token) → each is_given c ≡ true
        → (made make g).spells o c r → passes form.printable (from o) ≡ true
    found_only o c r a s =
        subst (λ (u : Operand). passes form.printable (from u) ≡ true) s.3
        (subst (λ (x : Option A). passes form.printable x ≡ true) (sym (held.back s.0))
        ((prints_only p).holds s.0 c r a s.1))

    found_prints : Prints (found_form from form) (made make g)
    found_prints = record {
      nests = λ o h. found_nests (from o) h;
      front = λ rest test f o r h i e. found_front rest test f (from o) r h i e;
      here = λ o r h e. found_here o (from o) r refl h e;
      only = λ o c r a s. (o, refl, found_only o c r a s);
    }

nothing_is : (o : Operand) → passes blank_form.ready (found_nothing o) ≡ true → nothing ≡ o
nothing_is nothing h = refl
nothing_is _ h = absurd cc

-- no operand
nothing_prints : Prints (found_form found_nothing blank_form) (blank nothing)
nothing_prints = record {
  nests = λ o h. (subst (λ (u : Operand). WellFormed (spell_option blank_form.spell
      (found_nothing u))) (nothing_is o h) well_formed.nothing);
  front = λ rest test f o r h i e. (subst (λ (u : Operand). test (spell_option blank_form.spell
      (found_nothing u) ++ r) ≡ true) (nothing_is o h) e);
  here = λ o r h e. (subst (λ (u : Operand). (blank nothing).spells u (spell_option
      blank_form.spell (found_nothing u)) r) (nothing_is o h) (refl, refl));
  only = λ o c r a s. (
    o,
    refl,
    subst (λ (u : Operand). passes blank_form.printable
        (found_nothing u) ≡ true) (sym s.1) refl,
  );
}

pub operand_prints : (h : Op) → Prints (operand_form h) (operand h)
unfolding operand
operand_prints (ops.Block op) = found_prints block_held block_prints refl
operand_prints (ops.Label op) = found_prints label_held end_label_prints refl
operand_prints (ops.Scalar op) = nothing_prints
operand_prints (ops.Indexed op) = found_prints one_index_held index_prints refl
operand_prints (ops.CallIndirect op) = found_prints call_held call_prints refl
operand_prints (ops.Table op) = found_prints one_index_held index_or_0_prints refl
operand_prints (ops.Access op) = found_prints access_held (access_prints (access_align op)) refl
operand_prints (ops.Memory op) = found_prints one_index_held index_or_0_prints refl
operand_prints (ops.Struct op) = found_prints two_indices_held pair_prints refl
operand_prints (ops.ArrayInit op) = found_prints two_indices_held pair_prints refl
operand_prints (ops.AtomicAccess op) =
    found_prints access_held (atomic_prints (atomic_access_align op) false) refl
operand_prints (ops.RmwAccess op) =
    found_prints access_held (atomic_prints (rmw_access_align op) true) refl
operand_prints (ops.OrderedIndex op) =
    found_prints ordered_index_held (ordered_prints index_prints (search rules)) refl
operand_prints (ops.OrderedTable op) =
    found_prints ordered_index_held (ordered_prints index_or_0_prints (search rules)) refl
operand_prints (ops.OrderedStruct op) =
    found_prints ordered_indices_held (ordered_prints pair_prints (search rules)) refl
operand_prints (ops.LaneAccess op) =
    found_prints lane_access_held (lane_access_prints (lane_access_align op)) refl
operand_prints (ops.Lane op) = found_prints lane_held lane_prints refl
operand_prints (ops.Vector op) = nothing_prints
operand_prints ops.br_table = found_prints branches_held br_table_prints refl
operand_prints ops.select = found_prints chosen_held select_prints refl
operand_prints ops.memory_init = found_prints two_indices_held init_prints refl
operand_prints ops.memory_copy = found_prints two_indices_held copy_prints refl
operand_prints ops.table_init = found_prints two_indices_held init_prints refl
operand_prints ops.table_copy = found_prints two_indices_held copy_prints refl
operand_prints ops.ref_null = found_prints heap_held heap_prints refl
operand_prints ops.array_new_fixed = found_prints sized_held sized_prints refl
operand_prints ops.array_new_data = found_prints two_indices_held pair_prints refl
operand_prints ops.array_new_elem = found_prints two_indices_held pair_prints refl
operand_prints ops.array_fill = found_prints one_index_held index_prints refl
operand_prints ops.array_copy = found_prints two_indices_held pair_prints refl
operand_prints ops.ref_test = found_prints reference_held ref_prints refl
operand_prints ops.ref_cast = found_prints reference_held ref_prints refl
operand_prints ops.br_on_cast = found_prints cast_held branch_prints refl
operand_prints ops.br_on_cast_fail = found_prints cast_held branch_prints refl
operand_prints ops.i32_const = found_prints integer_held (signed_prints 32 halves_32) refl
operand_prints ops.i64_const = found_prints integer_held (signed_prints 64 halves_64) refl
operand_prints ops.f32_const = found_prints float_held none_prints refl
operand_prints ops.f64_const = found_prints float_held none_prints refl
operand_prints ops.atomic_fence = found_prints fence_held fence_prints refl
operand_prints ops.v128_const = found_prints vector_held vector_prints refl
operand_prints ops.i8x16_shuffle = found_prints shuffled_held shuffle_prints refl
operand_prints ops.try_table = found_prints caught_held try_prints refl
operand_prints ops.cont_bind = found_prints two_indices_held pair_prints refl
operand_prints ops.resume = found_prints resumed_held resume_prints refl
operand_prints ops.resume_throw = found_prints thrown_held throw_prints refl
operand_prints ops.resume_throw_ref = found_prints resumed_held resume_prints refl
operand_prints ops.switch = found_prints two_indices_held pair_prints refl
operand_prints ops.ref_cast_desc_eq = found_prints reference_held ref_prints refl
operand_prints ops.br_on_cast_desc_eq = found_prints cast_held branch_prints refl
operand_prints ops.br_on_cast_desc_eq_fail = found_prints cast_held branch_prints refl

-- each printable operand can be written
pub operand_ready : (h : Op) (o : Operand) → (operand_form h).printable o ≡ true
    → (operand_form h).ready o ≡ true
operand_ready (ops.Block op) o f = f
operand_ready _ o f = f

operand_balanced : (h : Op) → (operand_form h).balanced ≡ true
operand_balanced (ops.Block op) = refl
operand_balanced _ = refl

operand_nests : (h : Op) (o : Operand) → (operand_form h).printable o ≡ true
    → WellFormed ((operand_form h).spell o)
operand_nests h o f =
    subst (λ (b : Bool). Nests b ((operand_form h).spell o)) (operand_balanced h)
    ((operand_prints h).nests o (operand_ready h o f))

-- the operand of h is read before a rest that may follow it
operand_ends : (h : Op) (r : List Token) → EndsOperand h r → (operand_form h).follows r ≡ true
operand_ends (ops.Block op) r e = search (rules, not_from_false, and_from)
operand_ends ops.try_table r e = search (rules, not_from_false, and_from, e.no_catch)
operand_ends _ r e = search (rules, not_from_false, and_from)

-- ---- words

test_at : (test : Op → Bool) (xs : List Op) (k : ℕ) → each test xs ≡ true → k < length xs
    → test (get_or xs k first) ≡ true
test_at test [] k e l = absurd (omega (arith, l))
test_at test (x ∷ xs) zero e l = (and_parts (test x) (each test xs) e).0
test_at test (x ∷ xs) (suc k) e l =
    test_at test xs k (and_parts (test x) (each test xs) e).1 (omega (arith, l))

-- each instruction passes the test, since each instruction of the table does
pub every_op : (test : Op → Bool) → each test all_ops ≡ true → (h : Op) → test h ≡ true
every_op test e h =
    subst (λ (x : Op). test x ≡ true) (there h)
    (test_at test all_ops (table_index h) e
    (let l = table_length in let b = index_below h in omega arith))

-- no mnemonic passes the test
pub no_word : (test : List ℕ → Bool) → each (λ h. not (test (op_word h))) all_ops ≡ true
    → (h : Op) → test (op_word h) ≡ false
no_word test e h = not-true (test (op_word h)) (every_op (λ x. not (test (op_word x))) e h)

pub word_printable : (h : Op) → is_keyword (op_word h) ≡ true
word_printable h = every_op (λ x. is_keyword (op_word x)) refl h

-- ---- instructions

-- the tokens of the instruction of h
pub spell_of : (h : Op) (o : Operand)
    → spell_instruction (instr_of h o) ≡ Keyword (op_word h) ∷ (operand_form h).spell o
spell_of h o =
    ap (λ (x : Op). Keyword (op_word x) ∷ (operand_form x).spell o) (there h)

pub printable_of : (h : Op) (o : Operand)
    → printable_instruction (instr_of h o) ≡ (operand_form h).printable o
printable_of h o =
    ap (λ (x : Op). (op_row x == op_row h) && (operand_form x).printable o) (there h)
    ∙ ap (λ (b : Bool). b && (operand_form h).printable o) (same_number (op_row h))

-- a word and an operand, one after the other
pub ruleset instruction_put = (put_both, spell_of, printable_of, there, same_number)

spells_of : (h : Op) (o : Operand) (r : List Token) → (operand_form h).printable o ≡ true
    → EndsOperand h r
    → instruction.spells (instr_of h o) (Keyword (op_word h) ∷ (operand_form h).spell o) r
unfolding instruction
spells_of h o r f e = (
  h,
  Keyword (op_word h) ∷ [],
  (operand_form h).spell o,
  refl,
  refl,
  (o, (operand_prints h).here o r (operand_ready h o f) (operand_ends h r e), refl, refl),
)

-- the instruction of the row
of_row : (i : InstructionModel) → printable_instruction i ≡ true
    → instr_of (op_of_row i.row) i.operand ≡ i
of_row i f =
    let h = op_of_row i.row in
    let a = and_parts (op_row h == i.row) ((operand_form h).printable i.operand) f in
    ap (λ (n : ℕ). record { row = n; operand = i.operand })
    (eqb-true (op_row h) i.row a.0)

-- if the rest isn't read as a part of the instruction
pub instruction_here : (i : InstructionModel) (r : List Token) → printable_instruction i ≡ true
    → EndsOperand (op_of_row i.row) r → instruction.spells i (spell_instruction i) r
instruction_here i r f e =
    let h = op_of_row i.row in
    let a = and_parts (op_row h == i.row) ((operand_form h).printable i.operand) f in
    subst (λ (x : InstructionModel). instruction.spells x (spell_instruction i) r) (of_row i f)
    (spells_of h i.operand r a.1 e)

pub instruction_well_formed : (i : InstructionModel) → printable_instruction i ≡ true
    → WellFormed (spell_instruction i)
instruction_well_formed i f =
    let h = op_of_row i.row in
    let a = and_parts (op_row h == i.row) ((operand_form h).printable i.operand) f in
    well_formed_word (op_word h) ((operand_form h).spell i.operand) (word_printable h)
    (operand_nests h i.operand a.1)

instruction_holds : (i : InstructionModel) (c r : List Token) → each is_given c ≡ true
    → instruction.spells i c r → printable_instruction i ≡ true
unfolding instruction
instruction_holds i c r a s =
    let h = s.0 in
    let o = s.5.0 in
    let g = (given_parts c s.1 s.2 s.3 a).1 in
    subst (λ (x : InstructionModel). printable_instruction x ≡ true) s.5.3
    (printable_of h o ∙ (prints_only (operand_prints h)).holds o s.2 r g s.5.1)

pub instruction_only : OnlyPrintable instruction printable_instruction
instruction_only = record { holds = instruction_holds }

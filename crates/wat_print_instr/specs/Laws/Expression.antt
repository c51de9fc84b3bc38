-- Laws: the round trip of an expression at the end of its group, and the first tokens of an
-- expression. Each printable expression is well-formed.
use Rattle.std.proofs.Common.{ap, subst, sym, append_assoc, arith, rules, ◌≡◌, ℕ, ◌+◌, ◌<◌, Bool, true, false, ◌&&◌, ◌==◌, nat_lt, List, [], ◌∷◌, ◌++◌, flat_map, Option, Some, None, codes, option_map, is_some, if◌then◌else◌, not, refl}
use Rattle.wat_print.specs.Laws.Prelude.{and_parts, eqb-true, ltb-true, or_from, nat_tests, end_denied, noted, well_formed_both, well_formed_one}
use Rattle.wat_print_instr.specs.Prelude.{bytes_eq, Token, LParen, RParen, Keyword, String, begins_word, ends, second, all_ops, op_word, op_row, op_of_row, Op, InstructionModel, at_word, past_front, ExpressionModel, expression, Items, Nil, Plain, Hinted, lists, unfolded, hints_behind, is_branch, hint_name, mark, WellFormed, nothing, is_printable, is_byte, each, if_some, spell_option, HintedInstruction, step_of, spell_hint, spell_step, printable_step, steps_from, spell_expression, printable_expression, hint_for, hints_after, passes, operand_form, spell_instruction, printable_instruction}
use Rattle.wat_print.specs.Laws.Parts.{well_formed_each}
use Rattle.wat_print_instr.specs.ExpressionForm.{printable_hint}
use Rattle.wat_instr.specs.Follows.{NoTypeSecond}
use Rattle.wat_print.specs.Laws.Annotation.{ascii_name}
use Rattle.wat_print_instr.specs.Laws.Instruction.{EndsOperand, ends_nothing, ends_annotation, instruction_here, instruction_well_formed, no_word}
use Rattle.wat_print_instr.specs.Laws.OperandFront.{NoOperandWord, clear_both, operand_clear}

-- ---- no mnemonic is a word that the parser looks for

-- the word is not a mnemonic
abbrev pub NoMnemonic : List ℕ → Type 0
NoMnemonic w = (h : Op) → bytes_eq (op_word h) w ≡ false

pub no_mnemonic : (w : List ℕ) → each (λ h. not (bytes_eq (op_word h) w)) all_ops ≡ true
    → NoMnemonic w
no_mnemonic w e h = no_word (λ u. bytes_eq u w) e h

pub no_type : NoMnemonic (codes "type")
no_type = no_mnemonic (codes "type") refl

pub no_param : NoMnemonic (codes "param")
no_param = no_mnemonic (codes "param") refl

pub no_result : NoMnemonic (codes "result")
no_result = no_mnemonic (codes "result") refl

no_offset : (h : Op) → is_some (past_front (codes "offset=") (op_word h)) ≡ false
unfolding past_front
no_offset h = no_word (λ u. is_some (past_front (codes "offset=") u)) refl h

no_align : (h : Op) → is_some (past_front (codes "align=") (op_word h)) ≡ false
unfolding past_front
no_align h = no_word (λ u. is_some (past_front (codes "align=") u)) refl h

-- ---- the first tokens of steps

-- the test fails for each mnemonic (OnWords) and for each hint (OnHints)
abbrev pub OnWords : (List Token → Bool) → Type 0
OnWords test = (h : Op) (y : List Token) → test (Keyword (op_word h) ∷ y) ≡ false

abbrev pub OnHints : (List Token → Bool) → Type 0
OnHints test = (y : List Token) → test (LParen ∷ hint_name ∷ y) ≡ false

step_first : (test : List Token → Bool) → OnWords test → OnHints test
    → (h : Option ℕ) (i : InstructionModel)
    (s t : List Token) → test ((spell_step (step_of h i) ++ s) ++ t) ≡ false
step_first test f g (Some v) i s t = g _
step_first test f g None i s t = f (op_of_row i.row) _

steps_first : (test : List Token → Bool) → OnWords test → OnHints test
    → (xs : List HintedInstruction)
    (r : List Token) → test r ≡ false → test (flat_map spell_step xs ++ r) ≡ false
steps_first test f g [] r e = e
steps_first test f g (x ∷ xs) r e =
    step_first test f g x.hint x.instr (flat_map spell_step xs) r

step_word : (w : List ℕ) → NoMnemonic w → (h : Option ℕ) (i : InstructionModel) (s : List Token)
    → begins_word w (spell_step (step_of h i) ++ s) ≡ false
step_word w n (Some v) i s = refl
step_word w n None i s = n (op_of_row i.row)

steps_word : (w : List ℕ) → NoMnemonic w → (xs : List HintedInstruction)
    → begins_word w (flat_map spell_step xs) ≡ false
steps_word w n [] = refl
steps_word w n (x ∷ xs) = step_word w n x.hint x.instr (flat_map spell_step xs)

-- the second token isn't w: neither an operand nor the rest begins with w
step_second : (w : List ℕ) → NoOperandWord w
    → (h : Option ℕ) (i : InstructionModel) (s t : List Token)
    → if_some (printable_hint i) h && printable_instruction i ≡ true
    → begins_word w s ≡ false → begins_word w t ≡ false
    → second (begins_word w) ((spell_step (step_of h i) ++ s) ++ t) ≡ false
step_second w a (Some v) i s t k e f = refl
step_second w a None i s t k e f =
    let m = op_of_row i.row in
    let c = (operand_form m).spell i.operand in
    let b = and_parts (op_row m == i.row) ((operand_form m).printable i.operand) k in
    clear_both w (c ++ s) t (clear_both w c s (operand_clear w a m i.operand b.1) e) f

pub no_word_at_end : (w : List ℕ) (r : List Token) → ends r ≡ true → begins_word w r ≡ false
no_word_at_end w r e = end_denied (at_word w).asks r refl e

steps_second : (w : List ℕ) → NoOperandWord w → NoMnemonic w
    → (xs : List HintedInstruction) (r : List Token) → each printable_step xs ≡ true
    → ends r ≡ true → second (begins_word w) r ≡ false
    → second (begins_word w) (flat_map spell_step xs ++ r) ≡ false
steps_second w a n [] r k e f = f
steps_second w a n (x ∷ xs) r k e f =
    step_second w a x.hint x.instr (flat_map spell_step xs) r
    (and_parts (printable_step x) (each printable_step xs) k).0 (steps_word w n xs)
    (no_word_at_end w r e)

-- ---- the first tokens of an expression

first_of : (test : List Token → Bool) → OnWords test → OnHints test
    → (o : Option (List HintedInstruction)) (r : List Token) → test r ≡ false
    → test (spell_option (flat_map spell_step) o ++ r) ≡ false
first_of test f g (Some xs) r k = steps_first test f g xs r k
first_of test f g None r k = k

-- if the test fails for words and hints, the test fails for expressions
pub expression_first : (test : List Token → Bool) → OnWords test → OnHints test
    → (e : ExpressionModel)
    (r : List Token) → test r ≡ false → test (spell_expression e ++ r) ≡ false
expression_first test f g e r k = first_of test f g (steps_from 0 e.instrs e.hints) r k

-- a fact about the tokens of printable steps
steps_have : (P : List Token → Type 0)
    → ((xs : List HintedInstruction) → each printable_step xs ≡ true → P (flat_map spell_step xs))
    → (o : Option (List HintedInstruction)) → passes (each printable_step) o ≡ true
    → P (spell_option (flat_map spell_step) o)
steps_have P f (Some xs) h = f xs h
steps_have P f None h = absurd cc

-- the second token of a printable expression isn't the word
pub expression_second : (w : List ℕ) → NoOperandWord w → NoMnemonic w
    → (e : ExpressionModel) (r : List Token)
    → printable_expression e ≡ true → ends r ≡ true → second (begins_word w) r ≡ false
    → second (begins_word w) (spell_expression e ++ r) ≡ false
expression_second w a n e r f k l =
    steps_have (λ c. second (begins_word w) (c ++ r) ≡ false)
    (λ xs h. steps_second w a n xs r h k l) (steps_from 0 e.instrs e.hints) f

-- an expression may be followed by nothing, or by a `)` without any of the three words after it
abbrev pub EndsExpression : List Token → Type 0
EndsExpression r = (ends r ≡ true) × NoTypeSecond r

steps_no_type : (xs : List HintedInstruction) (r : List Token) → each printable_step xs ≡ true
    → EndsExpression r → NoTypeSecond (flat_map spell_step xs ++ r)
steps_no_type xs r f k = (
  steps_second (codes "type") refl no_type xs r f k.0 k.1.0,
  steps_second (codes "param") refl no_param xs r f k.0 k.1.1,
  steps_second (codes "result") refl no_result xs r f k.0 k.1.2,
)

pub expression_no_type : (e : ExpressionModel) (r : List Token) → printable_expression e ≡ true
    → EndsExpression r → NoTypeSecond (spell_expression e ++ r)
expression_no_type e r f k =
    steps_have (λ c. NoTypeSecond (c ++ r)) (λ xs h. steps_no_type xs r h k)
    (steps_from 0 e.instrs e.hints) f

-- ---- the tokens that may follow an instruction

word_ends : {w : Op} (h : Op) (y : List Token)
    → NoTypeSecond (Keyword (op_word h) ∷ y)
    → EndsOperand w (Keyword (op_word h) ∷ y)
word_ends h y n =
    search (
      rules,
      or_from,
      no_offset h,
      no_align h,
      no_type h,
      no_mnemonic (codes "seqcst") refl h,
      no_mnemonic (codes "acqrel") refl h,
    )

pub end_ends : {w : Op} (r : List Token) → EndsExpression r → EndsOperand w r
end_ends [] e = ends_nothing
end_ends (RParen ∷ x) e = search (rules, or_from)
end_ends (_ ∷ x) e = absurd cc

step_ends : {w : Op} (h : Option ℕ) (i : InstructionModel) (s t : List Token)
    → NoTypeSecond ((spell_step (step_of h i) ++ s) ++ t)
    → EndsOperand w ((spell_step (step_of h i) ++ s) ++ t)
step_ends (Some v) i s t n = ends_annotation (codes "metadata.code.branch_hint") _ refl
step_ends None i s t n = word_ends (op_of_row i.row) _ n

steps_ends : {w : Op} (xs : List HintedInstruction) (r : List Token) → each printable_step xs ≡ true
    → EndsExpression r → EndsOperand w (flat_map spell_step xs ++ r)
steps_ends [] r k e = end_ends r e
steps_ends (x ∷ xs) r k e =
    step_ends x.hint x.instr (flat_map spell_step xs) r (steps_no_type (x ∷ xs) r k e)

-- ---- the first step, and the others

step_by : (t : Bool) (b : ℕ) (i : InstructionModel) (is : List InstructionModel) (h : ℕ
    × ℕ) (hs : List (ℕ × ℕ))
    → (if t then option_map (λ xs. step_of (Some h.1) i ∷ xs) (steps_from (b + 1) is hs)
    else option_map (λ xs. step_of None i ∷ xs) (steps_from (b + 1) is (h ∷ hs)))
    ≡ option_map (λ xs. step_of (if t then Some h.1 else None) i ∷ xs)
    (steps_from (b + 1) is (if t then hs else h ∷ hs))
step_by true b i is h hs = refl
step_by false b i is h hs = refl

-- the first step has the first hint, if the index of the hint is b
pub next_step : (b : ℕ) (i : InstructionModel) (is : List InstructionModel) (hs : List (ℕ × ℕ))
    → steps_from b (i ∷ is) hs
    ≡ option_map (λ xs. step_of (hint_for b hs) i ∷ xs) (steps_from (b + 1) is (hints_after b hs))
next_step b i is [] = refl
next_step b i is (h ∷ hs) = step_by (h.0 == b) b i is h hs

marked_by : (t : Bool) (b : ℕ) (h : ℕ × ℕ) (hs : List (ℕ × ℕ)) → (t ≡ true → h.0 ≡ b)
    → mark (if t then Some h.1 else None) b ++ (if t then hs else h ∷ hs) ≡ h ∷ hs
marked_by true b h hs e = ap (λ (n : ℕ). (n, h.1) ∷ hs) (sym (e refl))
marked_by false b h hs e = refl

-- the hint of the instruction at the index b, and the hints after it
marked_first : (b : ℕ) (hs : List (ℕ × ℕ)) → mark (hint_for b hs) b ++ hints_after b hs ≡ hs
marked_first b [] = refl
marked_first b (h ∷ hs) = marked_by (h.0 == b) b h hs (eqb-true h.0 b)

pub step_more : (h : Option ℕ) (i : InstructionModel) (o : Option (List HintedInstruction))
    → printable_step (step_of h i) ≡ true → passes (each printable_step) o ≡ true
    → passes (each printable_step) (option_map (λ xs. step_of h i ∷ xs) o) ≡ true
step_more h i (Some xs) f g = rw (f, g) refl
step_more h i None f g = absurd cc

-- ---- steps are items

abbrev item : Option ℕ → InstructionModel → Items → Items
item (Some v) i xs = Hinted v (Plain i xs)
item None i xs = Plain i xs

abbrev pub items_of : List HintedInstruction → Items
items_of [] = Nil
items_of (x ∷ xs) = item x.hint x.instr (items_of xs)

one_listed : (h : Option ℕ) (i : InstructionModel) (xs : List HintedInstruction) (t s : List Token)
    → if_some (printable_hint i) h && printable_instruction i ≡ true → lists (items_of xs) t s
    → EndsOperand (op_of_row i.row) t
    → lists (items_of (step_of h i ∷ xs)) (spell_step (step_of h i) ++ t) s
one_listed None i xs t s f l e =
    (t, (spell_instruction i, refl, instruction_here i t f e), l)
one_listed (Some v) i xs t s f l e =
    let a = and_parts (printable_hint i v) (printable_instruction i) f in
    let b = and_parts (is_branch i) (nat_lt v 2) a.0 in
    let c = spell_instruction i in (
      c ++ t,
      refl,
      ltb-true v 2 b.1,
      b.0,
      (t, (c, refl, instruction_here i t a.1 e), l),
    )

steps_listed : (xs : List HintedInstruction) (s : List Token) → each printable_step xs ≡ true
    → EndsExpression s → lists (items_of xs) (flat_map spell_step xs ++ s) s
steps_listed [] s f e = refl
steps_listed (x ∷ xs) s f e =
    let a = and_parts (printable_step x) (each printable_step xs) f in
    subst (λ (u : List Token). lists (items_of (x ∷ xs)) u s)
    (sym (append_assoc (spell_step x) (flat_map spell_step xs) s))
    (one_listed x.hint x.instr xs (flat_map spell_step xs ++ s) s a.0 (steps_listed xs s a.1 e)
    (steps_ends xs s a.1 e))

-- the expression of the items of steps, with the index b for the first instruction
abbrev expression_from : ℕ → List HintedInstruction → ExpressionModel
expression_from b xs = record {
  instrs = unfolded (items_of xs);
  hints = hints_behind None (items_of xs) b;
}

abbrev Unfolds : ℕ → ExpressionModel → Option (List HintedInstruction) → Type 0
Unfolds b e (Some xs) = e ≡ expression_from b xs
Unfolds b e None = Unit {0}

-- an instruction before the expression, with the index b
abbrev before : ℕ → Option ℕ → InstructionModel → ExpressionModel → ExpressionModel
before b h i e = record { instrs = i ∷ e.instrs; hints = mark h b ++ e.hints }

unfolds_more : (b : ℕ) (h : Option ℕ) (i : InstructionModel) (e : ExpressionModel) (o : Option
    (List HintedInstruction))
    → Unfolds (b + 1) e o → Unfolds b (before b h i e) (option_map (λ xs. step_of h i ∷ xs) o)
unfolds_more b (Some v) i e (Some xs) u = ap (before b (Some v) i) u
unfolds_more b None i e (Some xs) u = ap (before b None i) u
unfolds_more b h i e None u = tt

-- the items of steps unfold to the instructions and hints of the steps
steps_unfold : (b : ℕ) (is : List InstructionModel) (hs : List (ℕ × ℕ))
    → Unfolds b (record { instrs = is; hints = hs }) (steps_from b is hs)
steps_unfold b [] [] = refl
steps_unfold b [] (h ∷ hs) = tt
steps_unfold b (i ∷ is) hs =
    let h = hint_for b hs in
    let ks = hints_after b hs in
    let e : ExpressionModel = record { instrs = is; hints = ks } in
    subst (Unfolds b (record { instrs = i ∷ is; hints = hs })) (sym (next_step b i is hs))
    (subst (λ (l : List (ℕ × ℕ)). Unfolds b (record { instrs = i ∷ is; hints = l })
    (option_map (λ xs. step_of h i ∷ xs) (steps_from (b + 1) is ks))) (marked_first b hs)
    (unfolds_more b h i e (steps_from (b + 1) is ks) (steps_unfold (b + 1) is ks)))

steps_closed : (e : ExpressionModel) (o : Option (List HintedInstruction)) (r : List Token)
    → Unfolds 0 e o
    → passes (each printable_step) o ≡ true → EndsExpression r
    → expression.spells e (spell_option (flat_map spell_step) o) r
unfolding expression
steps_closed e None r u f k = absurd cc
steps_closed e (Some xs) r u f k = (items_of xs, steps_listed xs r f k, k.0, u)

-- at the end of its group
pub expression_closed : (e : ExpressionModel) (r : List Token) → printable_expression e ≡ true
    → EndsExpression r
    → expression.spells e (spell_expression e) r
expression_closed e r f k =
    steps_closed e (steps_from 0 e.instrs e.hints) r (steps_unfold 0 e.instrs e.hints) f k

-- ---- printable expressions are well-formed

byte_well_formed : (v : ℕ) → v < 2 → is_printable (String (v ∷ [])) ≡ true
byte_well_formed v lt = let e : is_byte v ≡ true = grind (arith, nat_tests) in rw e refl

hint_well_formed : (i : InstructionModel) (v : ℕ) → printable_hint i v ≡ true
    → WellFormed (spell_hint v)
hint_well_formed i v f =
    let b = and_parts (is_branch i) (nat_lt v 2) f in
    noted (codes "metadata.code.branch_hint") (String (v ∷ []) ∷ []) []
    (ascii_name (codes "metadata.code.branch_hint") refl) refl
    (well_formed_one (String (v ∷ [])) (byte_well_formed v (ltb-true v 2 b.1))) nothing

step_well_formed : (h : Option ℕ) (i : InstructionModel)
    → if_some (printable_hint i) h && printable_instruction i ≡ true
    → WellFormed (spell_step (step_of h i))
step_well_formed None i f = instruction_well_formed i f
step_well_formed (Some v) i f =
    let a = and_parts (printable_hint i v) (printable_instruction i) f in
    well_formed_both (spell_hint v) (spell_instruction i) (hint_well_formed i v a.0)
    (instruction_well_formed i a.1)

pub expression_well_formed : (e : ExpressionModel) → printable_expression e ≡ true
    → WellFormed (spell_expression e)
expression_well_formed e f =
    steps_have WellFormed
    (well_formed_each spell_step printable_step (λ x h. (step_well_formed x.hint x.instr h)))
    (steps_from 0 e.instrs e.hints) f

-- Laws: round trips of folded instructions. Printable folded instructions are well-formed.
use Rattle.std.proofs.Common.{ap, subst, sym, ◌∙◌, append_assoc, append-nil, rules, ◌≡◌, ℕ, Bool, true, false, not, ◌&&◌, List, [], ◌∷◌, ◌++◌, Option, Some, None, codes, option_map, is_some, refl}
use Rattle.wat_print.specs.Laws.Prelude.{and_parts, cond_both, not-true, or_from, well_formed_both, well_formed_paren, each_front}
use Rattle.wat_print_instr.specs.Prelude.{Token, LParen, RParen, Keyword, in_parens, begins_catch, op_word, Op, InstructionModel, ExpressionModel, Groups, NoGroup, Group, groups, unfolded_groups, folded_spells, folded_instruction, WellFormed, nothing, each, spell_option, takes_catches, is_catch, op_of, keeps_apart, own_groups, first_apart, catch_first, groups_behind, group_from, spell_groups, spell_folded, no_hints, printable_folded, spell_instruction, printable_instruction}
use Rattle.wat_print_instr.specs.Laws.Expression.{EndsExpression, end_ends, no_type, no_param, no_result, no_mnemonic}
use Rattle.wat_print_instr.specs.Laws.Instruction.{EndsOperand, instruction_here, every_op, instruction_well_formed}

-- ---- the first tokens of a group

abbrev same_test : Bool → Bool → Bool
same_test true b = b
same_test false b = not b

same_by : (a b : Bool) → same_test a b ≡ true → b ≡ a
same_by true b e = e
same_by false true e = absurd cc
same_by false false e = refl

-- a group of the word begins a catch clause exactly if `is_catch` holds
pub catch_told : (h : Op) (y : List Token)
    → begins_catch (LParen ∷ Keyword (op_word h) ∷ y) ≡ is_catch h
catch_told h y =
    same_by (is_catch h) _ (every_op
    (λ x. same_test (is_catch x) (begins_catch (LParen ∷ Keyword (op_word x) ∷ []))) refl h)

-- The group of an instruction isn't read as a part of an operand, with one exception: the group of
-- a `catch` or `catch_all` after a `try_table`.
group_ends : {w : Op} (h : Op) (y : List Token)
    → (takes_catches w ≡ true → is_catch h ≡ false)
    → EndsOperand w (LParen ∷ Keyword (op_word h) ∷ y)
group_ends h y k =
    search (
      rules,
      or_from,
      no_type h,
      no_param h,
      no_result h,
      no_mnemonic (codes "on") refl h,
      catch_told h y,
      k,
    )

-- ---- round trips of groups

-- the first group after a `try_table` isn't a `catch` or `catch_all`
abbrev FirstFree : Op → Groups → Type 0
FirstFree w NoGroup = Unit {0}
FirstFree w (Group i gs hs) = takes_catches w ≡ true → is_catch (op_of i) ≡ false

abbrev Readable : Groups → Type 0
Readable NoGroup = Unit {0}
Readable (Group i gs hs) = FirstFree (op_of i) gs × Readable gs × Readable hs

groups_end : {w : Op} (gs : Groups) (d : List Token) → FirstFree w gs
    → EndsExpression (RParen ∷ d) → EndsOperand w (spell_groups gs ++ RParen ∷ d)
groups_end NoGroup d k e = end_ends (RParen ∷ d) e
groups_end (Group i gs hs) d k e = group_ends (op_of i) _ k

group_closed : (hs : Groups) (r : List Token) → EndsExpression (RParen ∷ r)
    → EndsExpression (RParen ∷ (spell_groups hs ++ r))
group_closed NoGroup r k = k
group_closed (Group i gs hs) r k = (refl, (refl, refl, refl))

group_text : (s g h t : List Token)
    → (in_parens (s ++ g) ++ h) ++ t ≡ LParen ∷ (s ++ (g ++ (RParen ∷ (h ++ t))))
group_text s g h t = simp append_assoc

-- the instruction of the group, and the instructions of the groups inside it, can be written
own_printable : (gs : Groups) (i : InstructionModel)
    → each printable_instruction (unfolded_groups gs ++ i ∷ []) ≡ true
    → (each printable_instruction (unfolded_groups gs) ≡ true) × (printable_instruction i ≡ true)
own_printable gs i f =
    let u = each_front printable_instruction (unfolded_groups gs) (i ∷ []) f in
    (u.0, (and_parts (printable_instruction i) true u.1).0)

-- groups are read before a rest that may follow an expression in its group
groups_listed : (gs : Groups) (r : List Token)
    → each printable_instruction (unfolded_groups gs) ≡ true
    → Readable gs → EndsExpression (RParen ∷ r) → groups gs (spell_groups gs ++ r) r
groups_listed NoGroup r f k e = refl
groups_listed (Group i gs hs) r f k e =
    let d = spell_groups hs ++ r in
    let b = spell_groups gs ++ RParen ∷ d in
    let u =
    each_front printable_instruction (unfolded_groups gs ++ i ∷ []) (unfolded_groups hs) f in
    let v = own_printable gs i u.0 in (
      spell_instruction i ++ b,
      b,
      d,
      group_text (spell_instruction i) (spell_groups gs) (spell_groups hs) r,
      (
        spell_instruction i,
        refl,
        instruction_here i b v.1 (groups_end gs d k.0 (group_closed hs r e)),
      ),
      groups_listed gs (RParen ∷ d) v.0 k.1 (refl, (refl, refl, refl)),
      groups_listed hs r u.1 k.2 e,
    )

groups_well_formed : (gs : Groups) → each printable_instruction (unfolded_groups gs) ≡ true
    → WellFormed (spell_groups gs)
groups_well_formed NoGroup f = nothing
groups_well_formed (Group i gs hs) f =
    let u =
    each_front printable_instruction (unfolded_groups gs ++ i ∷ []) (unfolded_groups hs) f in
    let v = own_printable gs i u.0 in
    well_formed_both (in_parens (spell_instruction i ++ spell_groups gs)) (spell_groups hs)
    (well_formed_paren (spell_instruction i ++ spell_groups gs)
    (well_formed_both (spell_instruction i) (spell_groups gs) (instruction_well_formed i v.1)
    (groups_well_formed gs v.0)))
    (groups_well_formed hs u.1)

-- ---- which groups are written

own_unfold : (is : List InstructionModel) → unfolded_groups (own_groups is) ≡ is
own_unfold [] = refl
own_unfold (i ∷ is) = ap (λ (l : List InstructionModel). i ∷ l) (own_unfold is)

own_readable : (is : List InstructionModel) → Readable (own_groups is)
own_readable [] = tt
own_readable (i ∷ is) = (tt, tt, own_readable is)

apart_facts : (i : InstructionModel) → keeps_apart i ≡ true
    → (takes_catches (op_of i) ≡ false) × (is_catch (op_of i) ≡ false)
apart_facts i e =
    let p = and_parts (not (takes_catches (op_of i))) (not (is_catch (op_of i))) e in
    (not-true (takes_catches (op_of i)) p.0, not-true (is_catch (op_of i)) p.1)

free_behind : (w : Op) (gs : Groups) → takes_catches w ≡ false → FirstFree w gs
free_behind w NoGroup e = tt
free_behind w (Group i gs hs) e = λ t. absurd cc

-- the groups can be read after the word, and have the instructions
abbrev Chosen : Op → List InstructionModel → Option Groups → Type 0
Chosen w is None = Unit {0}
Chosen w is (Some gs) = (unfolded_groups gs ≡ is) × FirstFree w gs × Readable gs

apart_unfold : (i : InstructionModel) (before is : List InstructionModel)
    → unfolded_groups (Group i (own_groups before) (own_groups is)) ≡ before ++ i ∷ is
apart_unfold i before is =
    rw (own_unfold before, own_unfold is) (append_assoc before (i ∷ []) is)

apart_chosen : (w : Op) (before is : List InstructionModel)
    → Chosen w (before ++ is) (first_apart before is)
apart_chosen w before [] = tt
apart_chosen w before (i ∷ is) =
    cond_both (keeps_apart i) (Some (Group i (own_groups before) (own_groups is)))
    (first_apart (before ++ i ∷ []) is) (Chosen w (before ++ i ∷ is))
    (λ e. (let p = apart_facts i e in (
      apart_unfold i before is,
      λ t. p.1,
      (
        free_behind (op_of i) (own_groups before) p.0,
        own_readable before,
        own_readable is,
      ),
    )))
    (λ e. (subst (λ (l : List InstructionModel). Chosen w l (first_apart (before ++ i ∷ []) is))
    (append_assoc before (i ∷ []) is) (apart_chosen w (before ++ i ∷ []) is)))

own_free : (h : InstructionModel) (is : List InstructionModel) → catch_first h is ≡ false
    → FirstFree (op_of h) (own_groups is)
own_free h [] e = tt
own_free h (i ∷ is) e = λ t. rw t at e

behind_chosen : (h : InstructionModel) (is : List InstructionModel)
    → Chosen (op_of h) is (groups_behind h is)
behind_chosen h is =
    cond_both (catch_first h is) (first_apart [] is) (Some (own_groups is))
    (Chosen (op_of h) is) (λ e. (apart_chosen (op_of h) [] is))
    (λ e. (own_unfold is, own_free h is e, own_readable is))

-- one group, which can be read and has the instructions
abbrev Whole : List InstructionModel → Option Groups → Type 0
Whole is None = Unit {0}
Whole is (Some (Group i gs NoGroup)) =
    (unfolded_groups (Group i gs NoGroup) ≡ is) × Readable (Group i gs NoGroup)
Whole is _ = ⊥

whole_of : (i : InstructionModel) (is : List InstructionModel) (o : Option Groups)
    → Chosen (op_of i) is o
    → Whole (is ++ i ∷ []) (option_map (λ gs. Group i gs NoGroup) o)
whole_of i is None c = tt
whole_of i is (Some gs) c = (
  append-nil (unfolded_groups gs ++ i ∷ []) ∙ ap (λ (l : List InstructionModel). l ++ i ∷ []) c.0,
  (c.1, c.2, tt),
)

from_whole : (before is : List InstructionModel) → Whole (before ++ is) (group_from before is)
from_whole before [] = tt
from_whole before (i ∷ []) = whole_of i before (groups_behind i before) (behind_chosen i before)
from_whole before (i ∷ j ∷ is) =
    subst (λ (l : List InstructionModel). Whole l (group_from (before ++ i ∷ []) (j ∷ is)))
    (append_assoc before (i ∷ []) (j ∷ is)) (from_whole (before ++ i ∷ []) (j ∷ is))

-- the group of the last instruction
pub group_last : (before is : List InstructionModel) (i : InstructionModel)
    → group_from before (is ++ i ∷ [])
    ≡ option_map (λ gs. Group i gs NoGroup) (groups_behind i (before ++ is))
group_last before [] i =
    ap (λ (l : List InstructionModel). option_map (λ gs. Group i gs NoGroup) (groups_behind i l))
    (sym (append-nil before))
group_last before (j ∷ []) i = refl
group_last before (j ∷ k ∷ is) i =
    group_last (before ++ j ∷ []) (k ∷ is) i
    ∙ ap (λ (l : List InstructionModel). option_map (λ gs. Group i gs NoGroup) (groups_behind i l))
    (append_assoc before (j ∷ []) (k ∷ is))

-- ---- the written tokens

unhinted : (hs : List (ℕ × ℕ)) → no_hints hs ≡ true → hs ≡ []
unhinted [] e = refl
unhinted (h ∷ hs) e = absurd cc

whole_spells : (e : ExpressionModel) (o : Option Groups) (r : List Token) → Whole e.instrs o
    → e.hints ≡ []
    → each printable_instruction e.instrs ≡ true → is_some o ≡ true → EndsExpression (RParen ∷ r)
    → folded_spells e (spell_option spell_groups o) r
whole_spells e None r w n f s k = absurd cc
whole_spells e (Some NoGroup) r w n f s k = absurd w
whole_spells e (Some (Group i gs NoGroup)) r w n f s k =
    let l = groups_listed (Group i gs NoGroup) r
    (subst (λ (is : List InstructionModel). each printable_instruction is ≡ true) (sym w.0) f) w.1
    k in (
      i,
      gs,
      (l.0, l.1, l.3, l.4, subst (λ (d : List Token). groups gs l.1 (RParen ∷ d)) l.6 l.5),
      ap (λ (is : List InstructionModel). record { instrs = is; hints = e.hints })
          (sym w.0 ∙ append-nil (unfolded_groups gs ++ i ∷ []))
          ∙ ap (λ (hs : List (ℕ × ℕ)). record { instrs = unfolded_groups gs ++ i ∷ []; hints = hs })
          n,
    )
whole_spells e (Some (Group i gs (Group j ks hs))) r w n f s k = absurd w

abbrev FoldedParts : ExpressionModel → Type 0
FoldedParts e =
    (no_hints e.hints ≡ true) × (each printable_instruction e.instrs ≡ true)
    × (is_some (group_from [] e.instrs) ≡ true)

folded_parts : (e : ExpressionModel) → printable_folded e ≡ true → FoldedParts e
folded_parts e f =
    let some = is_some (group_from [] e.instrs) in
    let p = and_parts (no_hints e.hints) (each printable_instruction e.instrs && some) f in
    let q = and_parts (each printable_instruction e.instrs) some p.1 in
    (p.0, q.0, q.1)

-- if none of the words `type`, `param` and `result` follows
pub folded_here : (e : ExpressionModel) (r : List Token) → printable_folded e ≡ true
    → EndsExpression (RParen ∷ r)
    → folded_instruction.spells e (spell_folded e) r
unfolding folded_instruction
folded_here e r f k =
    let p = folded_parts e f in
    whole_spells e (group_from [] e.instrs) r (from_whole [] e.instrs) (unhinted e.hints p.0) p.1
    p.2 k

whole_well_formed : (is : List InstructionModel) (o : Option Groups) → Whole is o
    → each printable_instruction is ≡ true
    → WellFormed (spell_option spell_groups o)
whole_well_formed is None w f = nothing
whole_well_formed is (Some NoGroup) w f = absurd w
whole_well_formed is (Some (Group i gs NoGroup)) w f =
    groups_well_formed (Group i gs NoGroup)
    (subst (λ (l : List InstructionModel). each printable_instruction l ≡ true) (sym w.0) f)
whole_well_formed is (Some (Group i gs (Group j ks hs))) w f = absurd w

pub folded_well_formed : (e : ExpressionModel) → printable_folded e ≡ true
    → WellFormed (spell_folded e)
folded_well_formed e f =
    let p = folded_parts e f in
    whole_well_formed e.instrs (group_from [] e.instrs) (from_whole [] e.instrs) p.1

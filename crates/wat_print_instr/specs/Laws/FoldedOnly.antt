-- Laws: each folded instruction that the tokens of a text spell can be written.
use Rattle.std.proofs.Common.{◌≡◌, Bool, true, false, ◌||◌, List, [], ◌∷◌, ◌++◌, Option, Some, None, option_map, is_some, refl, ap, subst, sym, ◌∙◌}
use Rattle.std.proofs.lemmas.List.Folds.{list_any-append}
use Rattle.wat_expr.specs.Prelude.{append_cancel_right, group_is, many_ends}
use Rattle.wat_print_instr.specs.Laws.Prelude.{list_any, and_parts, cond_both, or_left, or_right, Token, LParen, RParen, Keyword, by_test, begins_catch, try_table, catch_clause, op_word, there, Op, InstructionModel, instruction, Operand, operand, ExpressionModel, Groups, NoGroup, Group, groups, unfolded_groups, folded_value, folded_spells, folded_instruction, reads, is_given, each, OnlyPrintable, each_both, each_front, takes_catches, is_catch, op_of, keeps_apart, first_apart, catch_first, groups_behind, group_from, own_groups, printable_folded, printable_instruction, group_last, instruction_only}
use Rattle.wat_print.specs.Laws.Only.{given_group}
use Rattle.wat_print_instr.specs.Laws.Folded.{catch_told}
use Rattle.wat_expr.specs.Laws.Folded.{groups_between}
use Rattle.wat_mnemonics.specs.declared.op.Op.TheVariants as ops

-- ---- its instructions can be written

pub groups_printable : (gs : Groups) (c r : List Token) → groups gs (c ++ r) r
    → each is_given c ≡ true
    → each printable_instruction (unfolded_groups gs) ≡ true
groups_printable NoGroup c r l g = refl
groups_printable (Group i gs hs) c r (a, b, d, e, h, ly, lx) g =
    let y = groups_between gs b (RParen ∷ d) ly in
    let x = groups_between hs d r lx in
    let k = LParen ∷ (h.0 ++ (y.front ++ (RParen ∷ x.front))) in
    let same : c ≡ k =
    append_cancel_right c k r (e ∙ group_is a h.0 y.front x.front d b r h.1 y.is x.is) in
    let v = given_group h.0 y.front x.front
    (subst (λ (l : List Token). each is_given l ≡ true) same g) in
    let own : each printable_instruction (i ∷ []) ≡ true =
    rw (instruction_only.holds i h.0 b v.0 h.2) refl in
    each_both printable_instruction (unfolded_groups gs ++ i ∷ []) (unfolded_groups hs)
    (each_both printable_instruction (unfolded_groups gs) (i ∷ [])
    (groups_printable gs y.front (RParen ∷ d)
    (subst (λ (t : List Token). groups gs t (RParen ∷ d)) y.is ly) v.1) own)
    (groups_printable hs x.front r (subst (λ (t : List Token). groups hs t r) x.is lx) v.2)

-- ---- the tokens after a `try_table`

try_stops : (h : Op) (o : Operand) (c r : List Token) → (operand h).spells o c r
    → takes_catches h ≡ true → begins_catch r ≡ false
unfolding operand try_table
try_stops ops.try_table o c r s t =
    let p = s.1 in
    many_ends begins_catch catch_clause p.0.1 p.1.1 r p.1.4
try_stops _ o c r s t = absurd cc

-- no catch clause follows a `try_table`
behind_try : (i : InstructionModel) (a b : List Token) → reads i a b
    → takes_catches (op_of i) ≡ true
    → begins_catch b ≡ false
unfolding instruction
behind_try i a b (c, e, s) t =
    let h = s.0 in
    let same : op_of i ≡ h = ap (λ (x : InstructionModel). op_of x) (sym s.5.3) ∙ there h in
    try_stops h s.5.0 s.2 b s.5.1
    (subst (λ (x : Op). takes_catches x ≡ true) same t)

-- after a `try_table`, the group of a `catch` or `catch_all` is read as a catch clause
group_told_of : (i : InstructionModel) (a b : List Token) → reads i a b
    → begins_catch (LParen ∷ a) ≡ is_catch (op_of i)
unfolding instruction
group_told_of i a b (c, e, s) =
    let h = s.0 in
    let same : op_of i ≡ h = ap (λ (x : InstructionModel). op_of x) (sym s.5.3) ∙ there h in
    let front : a ≡ Keyword (op_word h) ∷ (s.2 ++ b) =
    e ∙ ap (λ (l : List Token). l ++ b) (s.3 ∙ ap (λ (l : List Token). l ++ s.2) s.4) in
    ap (λ (l : List Token). begins_catch (LParen ∷ l)) front ∙ catch_told h (s.2 ++ b)
    ∙ sym (ap is_catch same)

-- ---- if a `catch` is the first of several instructions, one of the instructions keeps apart

abbrev first_is_catch : List InstructionModel → Bool
first_is_catch [] = false
first_is_catch (i ∷ is) = is_catch (op_of i)

abbrev any_apart : List InstructionModel → Bool
any_apart is = list_any keeps_apart is

any_left : (xs ys : List InstructionModel) → any_apart xs ≡ true → any_apart (xs ++ ys) ≡ true
any_left xs ys e = list_any-append keeps_apart xs ys ∙ or_left (any_apart xs) (any_apart ys) e

any_last : (xs : List InstructionModel) (i : InstructionModel) → keeps_apart i ≡ true
    → any_apart (xs ++ i ∷ []) ≡ true
any_last xs i e =
    list_any-append keeps_apart xs (i ∷ []) ∙ or_right (any_apart xs) _ (or_left _ false e)

-- the first instruction is in the group
first_in : (xs : List InstructionModel) (i : InstructionModel) (ys : List InstructionModel)
    → is_catch (op_of i) ≡ false
    → first_is_catch ((xs ++ i ∷ []) ++ ys) ≡ true → first_is_catch xs ≡ true
first_in [] i ys n e = absurd cc
first_in (x ∷ xs) i ys n e = e

apart_in : (gs : Groups) (ts r : List Token) → groups gs ts r → begins_catch ts ≡ false
    → first_is_catch (unfolded_groups gs) ≡ true → any_apart (unfolded_groups gs) ≡ true
apart_in NoGroup ts r l n e = absurd cc
apart_in (Group i gs hs) ts r (a, b, d, q, h, ly, lx) n e =
    let own : is_catch (op_of i) ≡ false =
    sym (group_told_of i a b h) ∙ sym (ap begins_catch q) ∙ n in
    any_left (unfolded_groups gs ++ i ∷ []) (unfolded_groups hs)
    (by_test (takes_catches (op_of i))
    (λ t. any_left (unfolded_groups gs) (i ∷ [])
    (apart_in gs b (RParen ∷ d) ly (behind_try i a b h t)
    (first_in (unfolded_groups gs) i (unfolded_groups hs) own e)))
    (λ t. any_last (unfolded_groups gs) i (rw (t, own) refl)))

some_apart : (before is : List InstructionModel) → any_apart is ≡ true
    → is_some (first_apart before is) ≡ true
some_apart before [] e = absurd cc
some_apart before (i ∷ is) e =
    cond_both (keeps_apart i) (Some (Group i (own_groups before) (own_groups is)))
    (first_apart (before ++ i ∷ []) is) (λ (o : Option Groups). is_some o ≡ true) (λ t. refl)
    (λ t. (some_apart (before ++ i ∷ []) is
    (subst (λ (b : Bool). b || any_apart is ≡ true) t e)))

catch_parts : (i : InstructionModel) (is : List InstructionModel) → catch_first i is ≡ true
    → (takes_catches (op_of i) ≡ true) × (first_is_catch is ≡ true)
catch_parts i [] t = absurd cc
catch_parts i (j ∷ is) t = and_parts (takes_catches (op_of i)) (is_catch (op_of j)) t

behind_some : (i : InstructionModel) (is : List InstructionModel)
    → (takes_catches (op_of i) ≡ true → first_is_catch is ≡ true → any_apart is ≡ true)
    → is_some (groups_behind i is) ≡ true
behind_some i is k =
    cond_both (catch_first i is) (first_apart [] is) (Some (own_groups is))
    (λ (o : Option Groups). is_some o ≡ true)
    (λ t. (let p = catch_parts i is t in some_apart [] is (k p.0 p.1))) (λ t. refl)

-- ---- folded instructions

some_group : (i : InstructionModel) (o : Option Groups) → is_some o ≡ true
    → is_some (option_map (λ gs. Group i gs NoGroup) o) ≡ true
some_group i (Some gs) e = refl
some_group i None e = absurd cc

value_printable : (i : InstructionModel) (gs : Groups)
    → each printable_instruction (unfolded_groups (Group i gs NoGroup)) ≡ true
    → is_some (groups_behind i (unfolded_groups gs)) ≡ true
    → printable_folded (folded_value i gs) ≡ true
value_printable i gs f s =
    let a = (each_front printable_instruction (unfolded_groups gs ++ i ∷ []) [] f).0 in
    let b : is_some (group_from [] (unfolded_groups gs ++ i ∷ [])) ≡ true =
    ap is_some (group_last [] (unfolded_groups gs) i)
    ∙ some_group i (groups_behind i (unfolded_groups gs)) s in
    rw (a, b) refl

folded_holds : (e : ExpressionModel) (c r : List Token) → each is_given c ≡ true
    → folded_spells e c r
    → printable_folded e ≡ true
folded_holds e c r g (i, gs, (a, b, q, h, l), k) =
    subst (λ (v : ExpressionModel). printable_folded v ≡ true) (sym k)
    (value_printable i gs (groups_printable (Group i gs NoGroup) c r (a, b, r, q, h, l, refl) g)
    (behind_some i (unfolded_groups gs)
    (λ t. (apart_in gs b (RParen ∷ r) l (behind_try i a b h t)))))

pub folded_only : OnlyPrintable folded_instruction printable_folded
unfolding folded_instruction
folded_only = record { holds = folded_holds }

-- Written groups of instructions.
use Rattle.std.proofs.Common.{◌≡◌, ◌==◌, ℕ, Bool, true, false, ◌&&◌, List, [], ◌∷◌, ◌++◌, flat_map, map, length, Option, Some, None, option_map, is_some, refl, ap, subst, sym, ◌∙◌, append-nil, get_or, arith}
use Rattle.wat_print_instr.specs.Laws.Prelude.{and_parts, eqb-true, and_left, and_right, map-append, by_test, Token, LParen, RParen, in_parens, InstructionModel, ExpressionModel, Groups, NoGroup, Group, each, spell_option, Page, put, put_then, put_both, each_append, takes_catches, is_catch, op_of, own_groups, catch_first, groups_behind, group_from, own_form, spell_groups, spell_folded, no_hints, printable_folded, group_last, spell_instruction, printable_instruction}
use Rattle.wat_print.specs.Laws.Written.{put_parens}

-- ---- texts

pub own_spelled : (is : List InstructionModel) → flat_map own_form.spell is ≡ spell_groups (own_groups is)
own_spelled [] = refl
own_spelled (i ∷ is) =
    ap (λ (l : List Token). in_parens l ++ flat_map own_form.spell is)
    (sym (append-nil (spell_instruction i)))
    ∙ ap (λ (l : List Token). in_parens (spell_instruction i ++ []) ++ l) (own_spelled is)

-- `(`, the instruction, groups, `)`
pub group_written : (i : InstructionModel) (gs : Groups) (a b c d e : Page) → b ≡ put a (LParen ∷ [])
    → c ≡ put b (spell_instruction i) → d ≡ put c (spell_groups gs) → e ≡ put d (RParen ∷ [])
    → e ≡ put a (in_parens (spell_instruction i ++ spell_groups gs))
group_written i gs a b c d e f g h k =
    put_parens (spell_instruction i ++ spell_groups gs) a b d e f
    (put_then (spell_instruction i) (spell_groups gs) b c d g h) k

-- ---- instructions that can be written

pub unprintable_here : (xs : List InstructionModel) (i : InstructionModel) (ys : List InstructionModel)
    → printable_instruction i ≡ false
    → each printable_instruction (xs ++ i ∷ ys) ≡ false
unprintable_here xs i ys e =
    each_append printable_instruction xs (i ∷ ys) ∙ and_right (each printable_instruction xs) _ (and_left _ _ e)

-- tokens and instructions in groups
pub ruleset groups_put = (own_spelled, put_both, each_append, unprintable_here, map-append)

-- ---- values that are viewed as instructions

module _ {X : Type 0} (v : X → InstructionModel) where
  pub catch_seen : (h : InstructionModel) (xs : List X) (x : X) → (length xs == 0) ≡ false
      → x ≡ get_or xs 0 x
      → takes_catches (op_of h) && is_catch (op_of (v x)) ≡ catch_first h (map v xs)
  catch_seen h [] x e s = absurd cc
  catch_seen h (y ∷ xs) x e s =
      ap (λ (z : X). takes_catches (op_of h) && is_catch (op_of (v z))) s

  pub seen_last : (all here others : List X) (last : X) → here ≡ all → here ≡ others ++ last ∷ []
      → map v all ≡ map v others ++ v last ∷ []
  seen_last all here others last e s =
      ap (map v) (sym e ∙ s) ∙ map-append v others (last ∷ [])

-- ---- a folded instruction

pub whole_written : (i : InstructionModel) (o : Option Groups) (a b c d e : Page) → b ≡ put a (LParen ∷ [])
    → c ≡ put b (spell_instruction i) → d ≡ put c (spell_option spell_groups o)
    → e ≡ put d (RParen ∷ []) → is_some o ≡ true
    → e ≡ put a (spell_option spell_groups (option_map (λ gs. Group i gs NoGroup) o))
whole_written i (Some gs) a b c d e f g h k s =
    group_written i gs a b c d e f g h k
    ∙ ap (λ (l : List Token). put a l)
    (sym (append-nil (in_parens (spell_instruction i ++ spell_groups gs))))
whole_written i None a b c d e f g h k s = absurd cc

some_whole : (i : InstructionModel) (o : Option Groups)
    → is_some (option_map (λ gs. Group i gs NoGroup) o) ≡ is_some o
some_whole i (Some gs) = refl
some_whole i None = refl

module _ (e : ExpressionModel) (is : List InstructionModel) (i : InstructionModel) (s : e.instrs ≡ is ++ i ∷ []) where
  whole_is : group_from [] e.instrs ≡ option_map (λ gs. Group i gs NoGroup) (groups_behind i is)
  whole_is = ap (group_from []) s ∙ group_last [] is i

  pub folded_written : (a b c d f : Page) → b ≡ put a (LParen ∷ [])
      → c ≡ put b (spell_instruction i) → d ≡ put c (spell_option spell_groups (groups_behind i is))
      → f ≡ put d (RParen ∷ [])
      → each printable_instruction is && is_some (groups_behind i is) ≡ true
      → f ≡ put a (spell_folded e)
  folded_written a b c d f g h k l m =
      whole_written i (groups_behind i is) a b c d f g h k l
      (and_parts (each printable_instruction is) (is_some (groups_behind i is)) m).1
      ∙ ap (λ (o : Option Groups). put a (spell_option spell_groups o)) (sym whole_is)

  some_is : is_some (group_from [] e.instrs) ≡ is_some (groups_behind i is)
  some_is = ap is_some whole_is ∙ some_whole i (groups_behind i is)

  parts_are : each printable_instruction e.instrs
      ≡ each printable_instruction is && (printable_instruction i && true)
  parts_are = ap (each printable_instruction) s ∙ each_append printable_instruction is (i ∷ [])

  pub folded_printable : no_hints e.hints ≡ true → printable_instruction i ≡ true
      → each printable_instruction is && is_some (groups_behind i is) ≡ true
      → printable_folded e ≡ true
  folded_printable n f m =
      let p = and_parts (each printable_instruction is) (is_some (groups_behind i is)) m in
      rw (n, parts_are, p.0, f, some_is, p.1) refl

  pub last_unprintable : printable_instruction i ≡ false → printable_folded e ≡ false
  last_unprintable f =
      and_right (no_hints e.hints) _
      (and_left (each printable_instruction e.instrs) _
      (ap (each printable_instruction) s ∙ unprintable_here is i [] f))

  pub others_unprintable : each printable_instruction is && is_some (groups_behind i is) ≡ false
      → printable_folded e ≡ false
  others_unprintable m =
      and_right (no_hints e.hints) _
      (by_test (each printable_instruction is)
      (λ t. and_right (each printable_instruction e.instrs) _
      (some_is ∙ subst (λ (b : Bool). b && is_some (groups_behind i is) ≡ false) t m))
      (λ t. and_left (each printable_instruction e.instrs) _ (parts_are ∙ and_left _ _ t)))

-- the view of an empty list has no hints
module _ {X : Type 0} (v : X → ℕ × ℕ) where
  none_by : (hs : List X) → (length hs == 0) ≡ true → no_hints (map v hs) ≡ true
  none_by [] e = refl
  none_by (h ∷ hs) e = absurd (omega (arith, eqb-true (length (h ∷ hs)) 0 e))

  pub hints_none : (all hs : List X) → hs ≡ all → (length hs == 0) ≡ true
      → no_hints (map v all) ≡ true
  hints_none all hs s e = ap (λ (l : List X). no_hints (map v l)) (sym s) ∙ none_by hs e

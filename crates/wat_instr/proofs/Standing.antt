-- Tokens that spell an instruction before one rest spell it before each rest that may follow an instruction.
use Rattle.std.proofs.Common.{◌≡◌, ℕ, ◌≤◌, Bool, true, false, List, [], ◌∷◌, ◌++◌, length, codes, Option, Some, None, refl, sym, ◌∙◌, subst, ap, arith, append_assoc, length-append, inl, inr}
use Rattle.wat_instr.specs.Prelude.{Token, LParen, Integer, Keyword, Alike, opens, closes, AreBalanced, opens-append, closes-append, past_front, Test, run, second_word, settled_alike, sees, Production, seq, made, opt, opt_spells, many_spells, many, group, IndexModel, index, begins_index, name_annotation, abstract_heap_type, heap_type, shorthand, ref_type, ValTypeModel, val_type, label, FunctionTypeModel, plain_params, params, val_types, func_group, group_follows, begins_func, at_func, function_groups, func_groups, function_type_no_names, type_index, type_use, array_of_length, field, signature, block_type, br_table, call_indirect, cast_branch, catch_kind, catch_clause, try_table, at_catch, catch_clause_consumes, aim, handler, resume_table, resume, resume_throw, lane_in, lane_arg, access_of, lane_access, LaneAccessModel, MemArgTargetModel, MemArgModel, target, offset_or_0, align, align_or, mem_arg, atomic_mem_arg, ordering, result_group, result_group_consumes, select_types, at_result, index_or_0, index_pair, init, copy, two, four, eight, sixteen, float_const, wide_const, v128_const, shuffle, lane_access_align, Op, operand, InstructionModel, behind_word, instruction}
use Rattle.wat_tokens.specs.Asks.{Asks, ask, behind}
use Rattle.wat_tokens.specs.Test.{sight}
use Rattle.wat_types.specs.Group.{Group}
use Rattle.wat_operands.specs.Lanes.{lane_alone, at_alone}
use Rattle.wat_tokens.specs.Settled.{settled}
use Rattle.wat_instr.proofs.Following.{may_follow, off, off_second, is_off, is_off_second}
use Rattle.wat_mnemonics.specs.declared.op.Op.TheVariants as ops

-- tokens that spell a value before e and some rest spell it before e and each rest that may follow
record Stands {A : Type 0} (g : Production A) : Type 0 where
  moves : (v : A) (c e r s : List Token) → opens e ≤ closes e → may_follow s ≡ true → g.spells v c (e ++ r) → g.spells v c (e ++ s)

abbrev is_settled : Asks → Bool
is_settled a = settled off off_second 0 (behind 0 a)

settles : (a : Asks) → is_settled a ≡ true → (e r s : List Token) → opens e ≤ closes e → may_follow s ≡ true → Alike a (e ++ r) (e ++ s)
settles a k e r s level f = settled_alike off off_second s (is_off s f) (is_off_second s f) (behind 0 a) r k e (omega arith) level

stands : {A : Type 0} (g : Production A) → is_settled g.asks ≡ true → Stands g
stands g k = record { moves = λ v c e r s level f h. g.moves v c (e ++ r) (e ++ s) (settles g.asks k e r s level f) h }

made_stands : {A B : Type 0} {f : A → B} {g : Production A} → Stands g → Stands (made f g)
made_stands p = record { moves = λ v c e r s level f h. (h.0, p.moves h.0 c e r s level f h.1, h.2, h.3) }

seq_stands : {A B : Type 0} {g : Production A} {h : Production B} → Stands g → Stands h → Stands (seq g h)
seq_stands {g = g} {h = h} p q = record {
  moves = λ v c e r s level f w. (
      let b : AreBalanced w.1 = h.balanced v.1 w.1 (e ++ r) w.4 in
      let both : opens (w.1 ++ e) ≤ closes (w.1 ++ e) = omega (arith, opens-append w.1 e, closes-append w.1 e, b, level) in
      let old = subst (λ (u : List Token). g.spells v.0 w.0 u) (sym (append_assoc w.1 e r)) w.3 in
      let new = subst (λ (u : List Token). g.spells v.0 w.0 u) (append_assoc w.1 e s) (p.moves v.0 w.0 (w.1 ++ e) r s both f old) in
      (w.0, w.1, w.2, new, q.moves v.1 w.1 e r s level f w.4));
}

-- a test looks at no more tokens than c has
seen : (test : Test) (b : Bool) (c t u : List Token) → 2 ≤ length c → sight test.asks ≤ 2 → run test (c ++ t) ≡ b → run test (c ++ u) ≡ b
seen test b c t u le few k = sym (sees test.asks c t u (omega (arith, le, few))) ∙ k

-- ---- type uses

begins_func_follows : (t : List Token) → begins_func t ≡ true → group_follows t ≡ true
begins_func_follows (LParen ∷ (Keyword k ∷ t)) e = e
begins_func_follows [] e = absurd cc
begins_func_follows (LParen ∷ []) e = absurd cc
begins_func_follows (LParen ∷ (_ ∷ t)) e = absurd cc
begins_func_follows (_ ∷ t) e = absurd cc

groups_take : (gs : List Group) (c t : List Token) → begins_func (c ++ t) ≡ true → (func_groups true).spells gs c t → 2 ≤ length c
unfolding func_groups func_group params label name_annotation plain_params val_types val_type ref_type shorthand heap_type abstract_heap_type
groups_take [] c t k s = absurd (
    let x : group_follows t ≡ true = begins_func_follows t (rw (s.0) at k) in
    let y : group_follows t ≡ false = s.1 in cc)
groups_take (g ∷ gs) c t k s = rw (s.2) (omega (arith, length-append s.0 s.1, (func_group true).takes g s.0 (s.1 ++ t) s.4))

function_stands : Stands function_type_no_names
unfolding function_groups func_groups func_group params label plain_params val_types val_type ref_type shorthand heap_type abstract_heap_type name_annotation past_front
function_stands = stands function_type_no_names refl

inline_moves : (v : Option FunctionTypeModel) (c e r s : List Token) → opens e ≤ closes e → may_follow s ≡ true → (opt at_func function_type_no_names).spells v c (e ++ r) → (opt at_func function_type_no_names).spells v c (e ++ s)
inline_moves (Some v) c e r s level f h =
    (seen at_func true c (e ++ r) (e ++ s) (groups_take h.1.0.0 c (e ++ r) h.0 h.1.0.1) (omega arith) h.0, function_stands.moves v c e r s level f h.1)
inline_moves None c e r s level f h = (h.0, settles (ask false at_func) refl e r s level f h.1)

inline_stands : Stands (opt at_func function_type_no_names)
inline_stands = record { moves = inline_moves }

signature_stands : Stands signature
unfolding type_use past_front
signature_stands = made_stands (seq_stands (stands (opt (second_word (codes "type")) type_index) refl) inline_stands)

block_stands : Stands block_type
unfolding block_type label name_annotation past_front
block_stands = made_stands (seq_stands (stands label refl) signature_stands)

call_stands : Stands call_indirect
unfolding call_indirect index_or_0 past_front
call_stands = made_stands (seq_stands (stands index_or_0 refl) signature_stands)

try_stands : Stands try_table
unfolding try_table catch_clause catch_kind past_front
try_stands = made_stands (seq_stands block_stands (stands (many at_catch catch_clause catch_clause_consumes) refl))

-- ---- the types of a select

results_take : (vs : List (List ValTypeModel)) (c t : List Token) → run at_result (c ++ t) ≡ true → many_spells (λ r. run at_result r) result_group vs c t → 2 ≤ length c
unfolding val_types
results_take [] c t k s = absurd (let x : run at_result t ≡ true = rw (s.0) at k in cc)
results_take (v ∷ vs) c t k s = rw (s.2) (omega (arith, length-append s.0 s.1, result_group.takes v s.0 (s.1 ++ t) s.4))

select_moves : (v : Option (List ValTypeModel)) (c e r s : List Token) → opens e ≤ closes e → may_follow s ≡ true → select_types.spells v c (e ++ r) → select_types.spells v c (e ++ s)
unfolding select_types val_types val_type ref_type shorthand heap_type abstract_heap_type past_front
select_moves (Some v) c e r s level f h = (
  seen at_result true c (e ++ r) (e ++ s) (results_take h.1.0 c (e ++ r) h.0 h.1.1) (omega arith) h.0,
  (h.1.0, (stands (many at_result result_group result_group_consumes) refl).moves h.1.0 c e r s level f h.1.1, h.1.2, h.1.3),
)
select_moves None c e r s level f h = (h.0, settles (ask false at_result) refl e r s level f h.1)

select_stands : Stands select_types
select_stands = record { moves = select_moves }

-- ---- an access to a lane takes two tokens or more

index_takes : (o : Option IndexModel) (c t : List Token) (text : List ℕ) → opt_spells begins_index index o c (Integer text ∷ t) → 1 ≤ length c
index_takes (Some i) c t text s = index.takes i c (Integer text ∷ t) s.1
index_takes None c t text s = absurd (let x : true ≡ false = s.1 in cc)

target_takes : (v : MemArgTargetModel) (c t : List Token) (text : List ℕ) → target.spells v c (Integer text ∷ t) → 1 ≤ length c
unfolding target index_or_0
target_takes v c t text (inl s) = omega (arith, (group (codes "type") index).takes s.1.0 c (Integer text ∷ t) s.1.1)
target_takes v c t text (inr s) = index_takes s.1.1.0 c t text s.1.1.1

access_takes : (v : MemArgTargetModel) (c d t : List Token) (text : List ℕ) → target.spells v c (d ++ (Integer text ∷ t)) → 1 ≤ length (c ++ d)
access_takes v c [] t text s = omega (arith, length-append c [], target_takes v c t text s)
access_takes v c (x ∷ d) t text s = omega (arith, length-append c (x ∷ d))

mem_arg_takes : (a : ℕ) (v : MemArgModel) (c t : List Token) (text : List ℕ) → (mem_arg a).spells v c (Integer text ∷ t) → 1 ≤ length c
unfolding mem_arg
mem_arg_takes a v c t text s = let q = s.1 in rw (q.2) (access_takes s.0.0 q.0 q.1 t text q.3)

lane_takes : (a : ℕ) (v : MemArgModel) (x : Token) (n : ℕ) (d t : List Token) → lane_in x ≡ Some n → (mem_arg a).spells v d (x ∷ t) → 1 ≤ length d
lane_takes a v (Integer text) n d t e s = mem_arg_takes a v d t text s
lane_takes a v _ n d t e s = absurd cc

lane_access_takes : (a : ℕ) (v : LaneAccessModel) (c t : List Token) → (made access_of (seq (mem_arg a) lane_arg)).spells v c t → 2 ≤ length c
unfolding lane_arg
lane_access_takes a v c t s =
    let q = s.1 in
    let lane = q.4.1 in
    let one : q.1 ≡ lane.0 ∷ [] = lane.1 in
    let front : (mem_arg a).spells s.0.0 q.0 (lane.0 ∷ t) = rw one at q.3 in
    let some = lane_takes a s.0.0 lane.0 q.4.0 q.0 t lane.2 front in
    rw (q.2) (omega (arith, length-append q.0 q.1, ap length one, some))

both_stand : (a : ℕ) → Stands (made access_of (seq (mem_arg a) lane_arg))
unfolding lane_arg mem_arg target index_or_0 offset_or_0 align_or align field past_front
both_stand a = stands (made access_of (seq (mem_arg a) lane_arg)) refl

alone_stands : (a : ℕ) → Stands (made (lane_alone a) lane_arg)
unfolding lane_arg past_front
alone_stands a = stands (made (lane_alone a) lane_arg) refl

lane_stays : (v : LaneAccessModel) (c e r s : List Token) → may_follow s ≡ true → opens e ≤ closes e → AreBalanced c → 1 ≤ length c → run at_alone (c ++ (e ++ r)) ≡ true → run at_alone (c ++ (e ++ s)) ≡ true
unfolding past_front
lane_stays v c e r s f level b le k =
    let l = settled_alike off off_second s (is_off s f) (is_off_second s f) (behind 1 (ask true at_alone)) r refl (c ++ e)
    (omega (arith, length-append c e, le)) (omega (arith, opens-append c e, closes-append c e, b, level)) in
    let old : run at_alone ((c ++ e) ++ r) ≡ true = ap (λ (u : List Token). run at_alone u) (append_assoc c e r) ∙ k in
    sym (ap (λ (u : List Token). run at_alone u) (append_assoc c e s)) ∙ l old

lane_access_moves : (a : ℕ) (v : LaneAccessModel) (c e r s : List Token) → opens e ≤ closes e → may_follow s ≡ true → (lane_access a).spells v c (e ++ r) → (lane_access a).spells v c (e ++ s)
unfolding lane_access lane_arg
lane_access_moves a v c e r s level f (inl h) =
    inl (lane_stays v c e r s f level ((made (lane_alone a) lane_arg).balanced v c (e ++ r) h.1) ((made (lane_alone a) lane_arg).takes v c (e ++ r) h.1) h.0, (alone_stands a).moves v c e r s level f h.1)
lane_access_moves a v c e r s level f (inr h) =
    inr (seen at_alone false c (e ++ r) (e ++ s) (lane_access_takes a v c (e ++ r) h.1) (omega arith) h.0, (both_stand a).moves v c e r s level f h.1)

lane_access_stands : (a : ℕ) → Stands (lane_access a)
lane_access_stands a = record { moves = lane_access_moves a }

-- ---- every operand

operand_stands : (h : Op) → Stands (operand h)
unfolding operand mem_arg atomic_mem_arg target index_or_0 index_pair init copy offset_or_0 align_or align field ordering lane_arg br_table heap_type abstract_heap_type ref_type shorthand
    array_of_length cast_branch v128_const wide_const float_const two four eight sixteen shuffle resume resume_throw resume_table handler aim past_front
operand_stands (ops.Block op) = made_stands block_stands
operand_stands (ops.CallIndirect op) = made_stands call_stands
operand_stands (ops.LaneAccess op) = made_stands (lane_access_stands (lane_access_align op))
operand_stands ops.select = made_stands select_stands
operand_stands ops.try_table = made_stands try_stands
operand_stands h = stands (operand h) refl

behind_stands : (h : Op) → Stands (behind_word h)
behind_stands h = made_stands (operand_stands h)

made_moves : (h : Op) (v : InstructionModel) (d r s : List Token) → may_follow s ≡ true → (behind_word h).spells v d r → (behind_word h).spells v d s
made_moves h v d r s f k = (behind_stands h).moves v d [] r s (omega arith) f k

pub instruction_stands : (v : InstructionModel) (c r s : List Token) → instruction.spells v c r → may_follow s ≡ true → instruction.spells v c s
unfolding instruction
instruction_stands v c r s h f =
    (h.0, h.1, h.2, h.3, h.4, made_moves h.0 v h.2 r s f h.5)

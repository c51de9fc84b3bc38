-- No operand begins with the keyword `type`, `param` or `result`.
use Rattle.std.proofs.Common.{bytes_eq, ◌≡◌, ℕ, ◌⊎◌, Bool, true, false, List, [], ◌∷◌, ◌++◌, Option, Some, None, codes, refl, subst, sym, ap, ◌∙◌, inl, inr}
use Rattle.wat_instr.specs.Prelude.{append-nil, bytes_decides, Token, LParen, Keyword, begins_word, begins_id, word_only, Production, by_test, seq, opt_spells, many_spells, identifier, index, begins_index, unsigned, unsigned_of, signed_of, joined, name_annotation, begins_name, abstract_heap_type, heap_type, shorthand, ref_type, label, func_group, group_follows, begins_func, func_groups, function_type_no_names, type_use, type_index, array_of_length, br_table, lane_in, lane_arg, lane_access, target, begins_with, offset_or_0, align, align_or, mem_arg, atomic_mem_arg, past_front, number_behind, field, ordering, begins_ordering, ordered, index_or_0, index_pair, init, copy, two, twice, four, eight, sixteen, float_const, wide_const, v128_const, shuffle, signature, block_type, call_indirect, cast_branch, begins_catch, try_table, catch_clause, resume_table, resume, resume_throw, at_result, result_follows, select_types, result_group, result_group_consumes, access_align, atomic_access_align, rmw_access_align, lane_access_align, op_word, Op, MayFollow, operand, InstructionModel, instruction, a_word, starts}
use Rattle.wat_tokens.specs.Tests.{as_id, word_in}
use Rattle.wat_tokens.specs.Index.{index_of}
use Rattle.wat_types.specs.Heap.{abstract_words}
use Rattle.wat_types.specs.Reference.{shorthand_words}
use Rattle.wat_types.specs.Use.{type_follows}
use Rattle.wat_instr.proofs.Following.{is_off}
use Rattle.wat_instr.proofs.Words.{it_may_follow}
use Rattle.wat_mnemonics.specs.declared.op.Op.TheVariants as ops

-- the first token is not one of the three keywords
record Fresh (c : List Token) : Type 0 where
  pub not_type : begins_word (codes "type") c ≡ false
  pub not_param : begins_word (codes "param") c ≡ false
  pub not_result : begins_word (codes "result") c ≡ false

abbrev fresh : {c : List Token} → begins_word (codes "type") c ≡ false → begins_word (codes "param") c ≡ false → begins_word (codes "result") c ≡ false → Fresh c
fresh p q r = record { not_type = p; not_param = q; not_result = r }

-- no spelling of a value begins with one of the three keywords
abbrev BeginsFresh : {A : Type 0} → Production A → Type 0
BeginsFresh {A} g = (v : A) (c r : List Token) → g.spells v c r → Fresh c

-- ---- parts

both : (c d : List Token) → Fresh c → Fresh d → Fresh (c ++ d)
both [] d p q = q
both (Keyword k ∷ c) d p q = fresh p.not_type p.not_param p.not_result
both (_ ∷ c) d p q = fresh refl refl refl

-- two parts in sequence
in_both : {c d e : List Token} → c ≡ d ++ e → Fresh d → Fresh e → Fresh c
in_both {d = d} {e = e} is p q = subst Fresh (sym is) (both d e p q)

empty : {c : List Token} → c ≡ [] → Fresh c
empty is = rw is (fresh refl refl refl)

group : {c d : List Token} → c ≡ LParen ∷ d → Fresh c
group is = rw is (fresh refl refl refl)

-- f accepts none of the three keywords
abbrev NoTypeWord : {A : Type 0} → (Token → Option A) → Type 0
NoTypeWord f = (f (Keyword (codes "type")) ≡ None) × (f (Keyword (codes "param")) ≡ None) × (f (Keyword (codes "result")) ≡ None)

other_word : {A : Type 0} (f : Token → Option A) (w : List ℕ) (x : Token) (v : A) (e : List Token) → f (Keyword w) ≡ None → f x ≡ Some v → begins_word w (x ∷ e) ≡ false
other_word f w (Keyword k) v e n h =
    by_test (bytes_eq k w)
    (λ t. absurd (let s : f (Keyword w) ≡ Some v = subst (λ (u : List ℕ). f (Keyword u) ≡ Some v) ((bytes_decides k w).0 t) h in cc))
    (λ t. t)
other_word f w _ v e n h = refl

-- a token that f accepts, and any tokens after it
in_front : {A : Type 0} {v : A} {c d : List Token} (f : Token → Option A) → NoTypeWord f → (e : List Token) → c ≡ d ++ e → (x : Token) × (d ≡ x ∷ []) × (f x ≡ Some v) → Fresh c
in_front {v = v} f n e is s =
    rw (is, s.1) (fresh (other_word f (codes "type") s.0 v e n.0 s.2) (other_word f (codes "param") s.0 v e n.1 s.2) (other_word f (codes "result") s.0 v e n.2 s.2))

one : {A : Type 0} {v : A} {c : List Token} (f : Token → Option A) → NoTypeWord f → (x : Token) × (c ≡ x ∷ []) × (f x ≡ Some v) → Fresh c
one {c = c} f n s = in_front f n [] (sym (append-nil c)) s

either : {P Q T U : Type 0} {c : List Token} → (T × P) ⊎ (U × Q) → (P → Fresh c) → (Q → Fresh c) → Fresh c
either (inl s) p q = p s.1
either (inr s) p q = q s.1

maybe : {A : Type 0} (begins : List Token → Bool) (g : Production A) → BeginsFresh g → (v : Option A) (c r : List Token) → opt_spells begins g v c r → Fresh c
maybe begins g p (Some v) c r s = p v c r s.1
maybe begins g p None c r s = empty s.0

some : {A : Type 0} (begins : List Token → Bool) (g : Production A) → BeginsFresh g → (vs : List A) (c r : List Token) → many_spells begins g vs c r → Fresh c
some begins g p [] c r s = empty s.0
some begins g p (v ∷ vs) c r s = in_both s.2 (p v s.0 (s.1 ++ r) s.4) (some begins g p vs s.1 r s.5)

-- ---- types

heap_fresh : BeginsFresh heap_type
unfolding heap_type abstract_heap_type
heap_fresh v c r s =
    either s (λ a. one index_of (refl, refl, refl) a.1) (λ s.
    either s (λ a. group a.1.1) (λ s.
    either s (λ a. group a.1.1) (λ a. one (word_in abstract_words) (refl, refl, refl) a.1)))

ref_fresh : BeginsFresh ref_type
unfolding ref_type shorthand
ref_fresh v c r s =
    either s (λ a. group a.1.1) (λ s. either s (λ a. group a.1.1) (λ a. one (word_in shorthand_words) (refl, refl, refl) a.1.1))

label_fresh : BeginsFresh label
unfolding label name_annotation
label_fresh v c r s =
    let q = s.1 in
    in_both q.2 (maybe begins_id identifier (λ v c r s. one as_id (refl, refl, refl) s) s.0.0 q.0 (q.1 ++ r) q.3)
    (maybe begins_name name_annotation (λ v c r s. group s.1) s.0.1 q.1 r q.4)

group_fresh : BeginsFresh (func_group true)
unfolding func_group
group_fresh v c r s = either s (λ a. group a.1.1) (λ a. group a.1.1)

function_fresh : BeginsFresh function_type_no_names
unfolding func_groups
function_fresh v c r s = some group_follows (func_group true) group_fresh s.0.0 c r s.0.1

signature_fresh : BeginsFresh signature
unfolding type_use
signature_fresh v c r s =
    let q = s.1 in
    in_both q.2 (maybe type_follows type_index (λ v c r s. group s.1) s.0.0 q.0 (q.1 ++ r) q.3)
    (maybe begins_func function_type_no_names function_fresh s.0.1 q.1 r q.4)

block_fresh : BeginsFresh block_type
unfolding block_type
block_fresh v c r s = let q = s.1 in in_both q.2 (label_fresh s.0.0 q.0 (q.1 ++ r) q.3) (signature_fresh s.0.1 q.1 r q.4)

-- ---- indices and accesses

index_fresh : BeginsFresh index
index_fresh v c r s = one index_of (refl, refl, refl) s

index_or_0_fresh : BeginsFresh index_or_0
unfolding index_or_0
index_or_0_fresh v c r s = maybe begins_index index index_fresh s.0 c r s.1

-- an index first
index_first : {A : Type 0} (g : Production A) → BeginsFresh (seq index g)
index_first g v c r s = in_front index_of (refl, refl, refl) s.1 s.2 s.3

index_pair_fresh : BeginsFresh index_pair
unfolding index_pair
index_pair_fresh = index_first index

init_fresh : BeginsFresh init
unfolding init
init_fresh v c r s = either s (λ a. index_pair_fresh v c r a) (λ a. index_fresh a.0 c r a.1)

copy_fresh : BeginsFresh copy
unfolding copy
copy_fresh v c r s = maybe begins_index index_pair index_pair_fresh s.0 c r s.1

length_fresh : BeginsFresh array_of_length
unfolding array_of_length
length_fresh = index_first (unsigned 32)

branches_fresh : BeginsFresh br_table
unfolding br_table
branches_fresh v c r s = in_front index_of (refl, refl, refl) s.2.1 s.2.2 s.2.3

ordering_fresh : BeginsFresh ordering
unfolding ordering
ordering_fresh v c r s =
    either s (λ a. one (word_only (codes "seqcst")) (refl, refl, refl) a.1) (λ a. one (word_only (codes "acqrel")) (refl, refl, refl) a.1)

-- an ordering first
ordered_fresh : {A : Type 0} (g : Production A) → BeginsFresh (ordered g)
unfolding ordering
ordered_fresh g v c r s =
    either s.3 (λ a. in_front (word_only (codes "seqcst")) (refl, refl, refl) s.1 s.2 a.1) (λ a. in_front (word_only (codes "acqrel")) (refl, refl, refl) s.1 s.2 a.1)

target_fresh : BeginsFresh target
unfolding target
target_fresh v c r s = either s (λ a. group a.1.1) (λ a. index_or_0_fresh a.0 c r a.1)

offset_fresh : BeginsFresh offset_or_0
unfolding offset_or_0 field past_front
offset_fresh v c r s = maybe (begins_with (codes "offset=")) (field (codes "offset=")) (λ v c r s. one (number_behind (codes "offset=")) (refl, refl, refl) s) s.0 c r s.1

align_fresh : (a : ℕ) → BeginsFresh (align_or a)
unfolding align_or align field past_front
align_fresh a v c r s = maybe (begins_with (codes "align=")) align (λ v c r s. one (number_behind (codes "align=")) (refl, refl, refl) s.0) s.0 c r s.1

access_fresh : (a : ℕ) → BeginsFresh (mem_arg a)
unfolding mem_arg
access_fresh a v c r s =
    let q = s.1 in
    let t = q.4 in
    in_both q.2 (target_fresh s.0.0 q.0 (q.1 ++ r) q.3) (in_both t.2 (offset_fresh s.0.1.0 t.0 (t.1 ++ r) t.3) (align_fresh a s.0.1.1 t.1 r t.4))

atomic_fresh : (a : ℕ) (rmw : Bool) → BeginsFresh (atomic_mem_arg a rmw)
unfolding atomic_mem_arg
atomic_fresh a rmw v c r s =
    let q = s.1 in
    in_both q.2 (access_fresh a s.0.0 q.0 (q.1 ++ r) q.3) (maybe begins_ordering ordering ordering_fresh s.0.1 q.1 r q.4)

lane_fresh : BeginsFresh lane_arg
unfolding lane_arg
lane_fresh v c r s = one lane_in (refl, refl, refl) s.1

lane_access_fresh : (a : ℕ) → BeginsFresh (lane_access a)
unfolding lane_access
lane_access_fresh a v c r s =
    either s (λ a. lane_fresh a.0 c r a.1)
    (λ b. (let q = b.1 in in_both q.2 (access_fresh a b.0.0 q.0 (q.1 ++ r) q.3) (lane_fresh b.0.1 q.1 r q.4)))

-- ---- vectors

two_fresh : {A : Type 0} (g : Production A) → BeginsFresh g → BeginsFresh (two g)
unfolding two
two_fresh g p v c r s = let q = s.1 in in_both q.2 (p s.0.0 q.0 (q.1 ++ r) q.3) (p s.0.1 q.1 r q.4)

twice_fresh : {A : Type 0} (g : Production (List A)) → BeginsFresh g → BeginsFresh (twice g)
twice_fresh g p v c r s = let q = s.1 in in_both q.2 (p s.0.0 q.0 (q.1 ++ r) q.3) (p s.0.1 q.1 r q.4)

shuffle_fresh : BeginsFresh shuffle
unfolding shuffle sixteen eight four
shuffle_fresh v c r s =
    twice_fresh (eight (unsigned 8)) (twice_fresh (four (unsigned 8)) (twice_fresh (two (unsigned 8)) (two_fresh (unsigned 8) (λ v c r s. one (unsigned_of 8) (refl, refl, refl) s)))) s.0 c r s.1

v128_const_fresh : BeginsFresh v128_const
unfolding v128_const wide_const float_const
v128_const_fresh v c r s =
    either s (λ a. in_front (word_only (codes "i8x16")) (refl, refl, refl) a.1.1 a.1.2 a.1.3) (λ s.
    either s (λ a. in_front (word_only (codes "i16x8")) (refl, refl, refl) a.1.1 a.1.2 a.1.3) (λ s.
    either s (λ a. in_front (word_only (codes "i32x4")) (refl, refl, refl) a.1.1 a.1.2 a.1.3) (λ s.
    either s (λ a. in_front (word_only (codes "i64x2")) (refl, refl, refl) a.1.1 a.1.2 a.1.3) (λ s.
    either s (λ a. in_front (word_only (codes "f32x4")) (refl, refl, refl) a.1.1 a.1.2 a.1.3) (λ a. in_front (word_only (codes "f64x2")) (refl, refl, refl) a.1.1 a.1.2 a.1.3)))))

-- ---- calls, casts, selects and handlers

call_fresh : BeginsFresh call_indirect
unfolding call_indirect
call_fresh v c r s =
    let q = s.1 in
    in_both q.2 (index_or_0_fresh s.0.0 q.0 (q.1 ++ r) q.3) (signature_fresh s.0.1 q.1 r q.4)

cast_fresh : BeginsFresh cast_branch
unfolding cast_branch
cast_fresh v c r s = index_first (seq ref_type ref_type) s.0 c r s.1

select_fresh : BeginsFresh select_types
unfolding select_types
select_fresh =
    maybe result_follows (joined at_result result_group result_group_consumes) (λ v c r s. some result_follows result_group (λ v c r s. group s.1) s.0 c r s.1)

try_fresh : BeginsFresh try_table
unfolding try_table catch_clause
try_fresh v c r s =
    let q = s.1 in
    in_both q.2 (block_fresh s.0.0 q.0 (q.1 ++ r) q.3) (some begins_catch catch_clause (λ v c r s. group s.1) s.0.1 q.1 r q.4)

resume_fresh : BeginsFresh resume
unfolding resume
resume_fresh v c r s = index_first resume_table s.0 c r s.1

throw_fresh : BeginsFresh resume_throw
unfolding resume_throw
throw_fresh v c r s = index_first (seq index resume_table) s.0 c r s.1

-- ---- every operand

operand_fresh : (h : Op) → BeginsFresh (operand h)
unfolding operand
operand_fresh (ops.Block op) v c r s = block_fresh s.0 c r s.1
operand_fresh (ops.Label op) v c r s = maybe begins_id identifier (λ v c r s. one as_id (refl, refl, refl) s) s.0 c r s.1
operand_fresh (ops.Scalar op) v c r s = empty s.0
operand_fresh (ops.Indexed op) v c r s = index_fresh s.0 c r s.1
operand_fresh (ops.CallIndirect op) v c r s = call_fresh s.0 c r s.1
operand_fresh (ops.Table op) v c r s = index_or_0_fresh s.0 c r s.1
operand_fresh (ops.Access op) v c r s = access_fresh (access_align op) s.0 c r s.1
operand_fresh (ops.Memory op) v c r s = index_or_0_fresh s.0 c r s.1
operand_fresh (ops.Struct op) v c r s = index_pair_fresh s.0 c r s.1
operand_fresh (ops.ArrayInit op) v c r s = index_pair_fresh s.0 c r s.1
operand_fresh (ops.AtomicAccess op) v c r s = atomic_fresh (atomic_access_align op) false s.0 c r s.1
operand_fresh (ops.RmwAccess op) v c r s = atomic_fresh (rmw_access_align op) true s.0 c r s.1
operand_fresh (ops.OrderedIndex op) v c r s = ordered_fresh index s.0 c r s.1
operand_fresh (ops.OrderedTable op) v c r s = ordered_fresh index_or_0 s.0 c r s.1
operand_fresh (ops.OrderedStruct op) v c r s = ordered_fresh index_pair s.0 c r s.1
operand_fresh (ops.LaneAccess op) v c r s = lane_access_fresh (lane_access_align op) s.0 c r s.1
operand_fresh (ops.Lane op) v c r s = lane_fresh s.0 c r s.1
operand_fresh (ops.Vector op) v c r s = empty s.0
operand_fresh ops.br_table v c r s = branches_fresh s.0 c r s.1
operand_fresh ops.select v c r s = select_fresh s.0 c r s.1
operand_fresh ops.memory_init v c r s = init_fresh s.0 c r s.1
operand_fresh ops.memory_copy v c r s = copy_fresh s.0 c r s.1
operand_fresh ops.table_init v c r s = init_fresh s.0 c r s.1
operand_fresh ops.table_copy v c r s = copy_fresh s.0 c r s.1
operand_fresh ops.ref_null v c r s = heap_fresh s.0 c r s.1
operand_fresh ops.array_new_fixed v c r s = length_fresh s.0 c r s.1
operand_fresh ops.array_new_data v c r s = index_pair_fresh s.0 c r s.1
operand_fresh ops.array_new_elem v c r s = index_pair_fresh s.0 c r s.1
operand_fresh ops.array_fill v c r s = index_fresh s.0 c r s.1
operand_fresh ops.array_copy v c r s = index_pair_fresh s.0 c r s.1
operand_fresh ops.ref_test v c r s = ref_fresh s.0 c r s.1
operand_fresh ops.ref_cast v c r s = ref_fresh s.0 c r s.1
operand_fresh ops.br_on_cast v c r s = cast_fresh s.0 c r s.1
operand_fresh ops.br_on_cast_fail v c r s = cast_fresh s.0 c r s.1
operand_fresh ops.i32_const v c r s = one (signed_of 32) (refl, refl, refl) s.1
operand_fresh ops.i64_const v c r s = one (signed_of 64) (refl, refl, refl) s.1
operand_fresh ops.f32_const v c r s = absurd s.1
operand_fresh ops.f64_const v c r s = absurd s.1
operand_fresh ops.atomic_fence v c r s = maybe begins_ordering ordering ordering_fresh s.0 c r s.1
operand_fresh ops.v128_const v c r s = v128_const_fresh s.0 c r s.1
operand_fresh ops.i8x16_shuffle v c r s = shuffle_fresh s.0 c r s.1
operand_fresh ops.try_table v c r s = try_fresh s.0 c r s.1
operand_fresh ops.cont_bind v c r s = index_pair_fresh s.0 c r s.1
operand_fresh ops.resume v c r s = resume_fresh s.0 c r s.1
operand_fresh ops.resume_throw v c r s = throw_fresh s.0 c r s.1
operand_fresh ops.resume_throw_ref v c r s = resume_fresh s.0 c r s.1
operand_fresh ops.switch v c r s = index_pair_fresh s.0 c r s.1
operand_fresh ops.ref_cast_desc_eq v c r s = ref_fresh s.0 c r s.1
operand_fresh ops.br_on_cast_desc_eq v c r s = cast_fresh s.0 c r s.1
operand_fresh ops.br_on_cast_desc_eq_fail v c r s = cast_fresh s.0 c r s.1

-- an instruction before a rest that may follow is also a rest that may follow
pub goes_before : (v : InstructionModel) (c r s : List Token) → instruction.spells v c r → MayFollow s → MayFollow (c ++ s)
unfolding instruction
goes_before v c r s h m =
    let d = h.2 in
    let is : c ≡ Keyword (op_word h.0) ∷ d = h.3 ∙ ap (λ (u : List Token). u ++ d) h.4 in
    let f = is_off s (it_may_follow s m) in
    let b = both d s (operand_fresh h.0 h.5.0 d r h.5.1) (fresh (f (starts (a_word (codes "type"))) refl) (f (starts (a_word (codes "param"))) refl) (f (starts (a_word (codes "result"))) refl)) in
    subst MayFollow (sym (ap (λ (u : List Token). u ++ s) is)) (inl (h.0, d ++ s, refl), (b.not_type, b.not_param, b.not_result))

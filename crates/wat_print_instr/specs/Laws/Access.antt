-- Laws: memory accesses, orderings and lanes are read again.
use Rattle.std.proofs.Common.{not, ◌≡◌, ℕ, zero, suc, ◌^◌, ◌<◌, Bool, true, false, ◌&&◌, ◌||◌, ◌==◌, List, [], ◌∷◌, ◌++◌, codes, decimal, Option, Some, None, is_none, option_map, if◌then◌else◌, unwrap_or, rules, refl, ap, subst, sym, append_assoc, inl, inr, lit≤, arith, ◌∙◌}
use Rattle.wat_expr.specs.Prelude.{lane_arg, goes_on, LaneAccessModel, lane_access, MemArgTargetModel, memory, array, array_follows, MemArgModel, mem_arg, atomic_mem_arg, ordering, ordered, index_or_0, LaneArg, MemArgOrdering, Ordering, AcqRel, SeqCst}
use Rattle.wat_print.specs.Laws.Prelude.{is_power_of_two, and_parts, cond_both, eqb-true, ltb-true, or_right, decimal_is_IsNumeral, unsigned_value, sign_of, Token, LParen, Keyword, Integer, number, name, begins_index, at_index, seq, opt, Production, at_word, second_word, past_front, Test, any, Form, pick, told_form, group_form, filled_form, index_form, is_u64, OfIntegers, each, spell_option, Prints, Unparses, is_keyword, is_given, one_prints, word_prints, seq_prints, made_prints, whole_prints, whole_where, told_prints, else_prints, option_prints, group_prints, prints_only, filled_prints, given_parts, no_sign, well_formed_both, and_also, index_prints, not-true, same_number}
use Rattle.wat_print_instr.specs.Prelude.{next_form, is_index_0}
use Rattle.wat_operands.specs.Lanes.{lane_of, lane_in, access_of, is_alone}
use Rattle.wat_operands.specs.Memory.{target, offset_or_0, align, align_or, mem_arg_of, ordering_as, with_ordering, at_front}
use Rattle.wat_operands.specs.Ordering.{at_ordering}
use Rattle.wat_operands.specs.Align.{number_behind, field, number_in}
use Rattle.wat_operands.specs.Laws.Power.{power_of_two-holds, power_of_two-tested}
use Rattle.wat_print_instr.specs.Access.{no_type, target_parts, target_form, offset_form, is_alignment, align_form, fields_form, Address, address_form, address_of, printable_access, access_form, ordering_parts, ordering_form, fence_form, ordered_form, ordering_in, atomic_parts, printable_ordering, printable_atomic, atomic_form, lane_form, lane_access_parts, printable_lane_access, lane_access_form}
use Rattle.wat_print_instr.specs.Numbers.{numbered, OfNumbered, numbered_form, is_unsigned}
use Rattle.wat_print_instr.specs.Laws.Form.{default_prints, next_prints}
use Rattle.wat_print_instr.specs.Laws.Numbers.{number_text, number_chars, unsigned_printable, unsigned_found, unsigned_text}
use Rattle.wat_print_instr.specs.Laws.Indices.{index_or_0_prints}
use Rattle.wat_tokens.specs.Laws.Kind.{past_own_front}

-- ---- targets

target_prints : Prints target_form target
unfolding target
target_prints =
    whole_prints (told_prints no_type (second_word (codes "type"))
    (made_prints (group_prints index_prints (codes "type") refl refl) array)
    (made_prints index_or_0_prints memory) (λ i r h k. refl) (search rules)) target_parts
    (λ t h. grind arith) (λ t h. h) (λ v h. grind arith)

-- ---- offsets and alignments

in_number : (o : Option (List ℕ)) (n : ℕ) → number_in o ≡ Some n → is_u64 n ≡ true
in_number (Some x) n e = unsigned_found 64 (lit≤ tt) x n e
in_number None n e = absurd cc

behind_given : (front : List ℕ) (t : Token) (n : ℕ) → is_given t ≡ true
    → number_behind front t ≡ Some n → is_u64 n ≡ true
behind_given front (Keyword w) n a e = in_number (past_front front w) n e
behind_given front LParen n a e = absurd cc
behind_given front _ n a e = absurd cc

field_prints : (front : List ℕ)
    → ((n : ℕ) → n < 2 ^ 64 → is_keyword (front ++ decimal n) ≡ true)
    → Prints (numbered_form front is_u64) (field front)
unfolding field
field_prints front chars =
    one_prints (number_behind front) (refl, refl) (numbered front) is_u64 (OfNumbered front)
    (λ rest test f n y h k. f n y k) (λ n h. chars n (ltb-true n (2 ^ 64) h))
    (λ n h. ap number_in (past_own_front front (decimal n))
    ∙ number_text n (ltb-true n (2 ^ 64) h))
    (behind_given front)

offset_prints : Prints offset_form offset_or_0
unfolding offset_or_0 past_front
offset_prints =
    default_prints (at_front (codes "offset="))
    (field_prints (codes "offset=") (λ n lt. rw (number_chars n lt) refl)) (λ n y h. refl) is_u64
    (λ n. n == 0) 0 (λ n e. sym (eqb-true n 0 e)) (λ n e h. h) (λ n h. h) refl

power_prints : Prints (numbered_form (codes "align=") is_alignment) align
unfolding align
power_prints =
    let p = field_prints (codes "align=") (λ n lt. rw (number_chars n lt) refl) in
    record {
      nests = λ n h. p.nests n (and_parts (is_power_of_two n) (is_u64 n) h).1;
      front = λ rest test f n r h i e. f n r i;
      here = λ n r h e. (let a = and_parts (is_power_of_two n) (is_u64 n) h in
          (p.here n r a.1 refl, power_of_two-holds n a.0));
      only = λ n c r a s. (
        n,
        refl,
        rw (power_of_two-tested n s.1, (prints_only p).holds n c r a s.0) refl,
      );
    }

align_prints : (a : ℕ) → Prints (align_form a) (align_or a)
unfolding align_or past_front
align_prints a =
    default_prints (at_front (codes "align=")) power_prints (λ n y h. refl)
    (λ n. (n == a) || is_alignment n) (λ n. n == a) a (λ n e. sym (eqb-true n a e))
    (λ n e h. rw e at h) (λ n h. or_right (n == a) (is_alignment n) h) (rw (same_number a) refl)

fields_prints : (a : ℕ) → Prints (fields_form a) (seq offset_or_0 (align_or a))
unfolding past_front
fields_prints a = next_prints any offset_prints (align_prints a) refl refl (search rules)

-- ---- accesses

address_prints : (a : ℕ) → Unparses (address_form a) mem_arg_of (mem_arg a)
unfolding mem_arg
address_prints a =
    made_prints (next_prints no_type target_prints (fields_prints a) refl refl
    (search (rules, and_also))) mem_arg_of

is_absent : {A : Type 0} (o : Option A) → is_none o ≡ true → None ≡ o
is_absent None e = refl
is_absent (Some x) e = absurd cc

unordered : (a : ℕ) (m : MemArgModel) → printable_access a m ≡ true → mem_arg_of (address_of m) ≡ m
unordered a m h =
    ap (λ (o : Option MemArgOrdering). record m { ordering = o }) (is_absent m.ordering
    (and_parts ((address_form a).printable (address_of m)) (is_none m.ordering) h).1)

pub access_prints : (a : ℕ) → Prints (access_form a) (mem_arg a)
access_prints a =
    whole_where (address_prints a) address_of (printable_access a) (unordered a)
    (λ m h. (and_parts ((address_form a).printable (address_of m)) (is_none m.ordering) h).0)
    (λ v h. and_also ((address_form a).printable v) h)

-- ---- orderings

pub ordering_prints : Prints ordering_form ordering
unfolding ordering
ordering_prints =
    whole_where (else_prints (at_word (codes "seqcst"))
    (made_prints (word_prints (codes "seqcst") refl refl) (λ _. SeqCst))
    (made_prints (word_prints (codes "acqrel") refl refl) (λ _. AcqRel)) (search rules)
    (search rules)) ordering_parts (λ _. true) (λ o h. grind arith) (λ o h. grind arith)
    (λ v h. refl)

pub fence_prints : Prints fence_form (opt at_ordering ordering)
fence_prints = option_prints at_ordering ordering_prints (search rules)

pub ordered_prints : {A : Type 0} {p : Form A} {g : Production A} → Prints p g → p.Fronts any any
    → Prints (ordered_form p) (ordered g)
ordered_prints p f = seq_prints ordering_prints p f

-- ---- atomic accesses

kind_of : (rmw : Bool) (o : Option MemArgOrdering) → printable_ordering rmw o ≡ true
    → option_map (ordering_as rmw) (option_map ordering_in o) ≡ o
kind_of rmw o h = grind arith

kind_printable : (rmw : Bool) (o : Option Ordering)
    → printable_ordering rmw (option_map (ordering_as rmw) o) ≡ true
kind_printable rmw o = grind arith

fence_ready : (o : Option Ordering) → fence_form.ready o ≡ true
fence_ready None = refl
fence_ready (Some o) = refl

module _ (a : ℕ) (rmw : Bool) where
  abbrev atomic_of : Address × Option Ordering → MemArgModel
  atomic_of v = with_ordering rmw (mem_arg_of v.0, v.1)

  atomic_tree : Unparses (next_form no_type (address_form a) fence_form) atomic_of
      (atomic_mem_arg a rmw)
  unfolding atomic_mem_arg past_front
  atomic_tree =
      made_prints (next_prints no_type (address_prints a) fence_prints refl refl
      (search (rules, and_also))) (with_ordering rmw)

  atomic_is : (m : MemArgModel) → printable_atomic a rmw m ≡ true → atomic_of (atomic_parts m) ≡ m
  atomic_is m h =
      ap (λ (o : Option MemArgOrdering). record m { ordering = o }) (kind_of rmw m.ordering
      (and_parts ((address_form a).printable (address_of m)) (printable_ordering rmw m.ordering) h).1)

  pub atomic_prints : Prints (atomic_form a rmw) (atomic_mem_arg a rmw)
  atomic_prints =
      whole_where atomic_tree atomic_parts (printable_atomic a rmw) atomic_is
      (λ m h. rw (
        (and_parts ((address_form a).printable (address_of m))
            (printable_ordering rmw m.ordering) h).0,
        fence_ready (option_map ordering_in m.ordering),
      ) refl)
      (λ v h. rw (
        (and_parts ((address_form a).printable v.0) (fence_form.printable v.1) h).0,
        kind_printable rmw v.1,
      ) refl)

-- ---- lanes

lane_given : (t : Token) (n : ℕ) → is_given t ≡ true → lane_in t ≡ Some n
    → is_unsigned 8 n ≡ true
lane_given (Integer x) n a e =
    cond_both (is_none (sign_of x)) (unsigned_value 8 x) None
    (λ (o : Option ℕ). o ≡ Some n → is_unsigned 8 n ≡ true)
    (λ u k. (unsigned_found 8 (lit≤ tt) x n k)) (λ u k. absurd cc) e
lane_given LParen n a e = absurd cc
lane_given _ n a e = absurd cc

lane_number : (n : ℕ) → is_unsigned 8 n ≡ true → lane_in (Integer (decimal n)) ≡ Some n
lane_number n h =
    let lt : n < 2 ^ 8 = ltb-true n (2 ^ 8) h in
    let d = decimal_is_IsNumeral n (omega arith) in
    rw (ap is_none (no_sign (decimal n) d.0.1).0) (unsigned_text 8 n (lit≤ tt) h)

pub lane_prints : Prints lane_form lane_arg
unfolding lane_arg
lane_prints =
    whole_prints (made_prints (one_prints lane_in (refl, refl) (λ n. Integer (decimal n))
    (is_unsigned 8) OfIntegers (λ rest test f n y h k. f (decimal n) y k)
    (λ n h. unsigned_printable 8 n (lit≤ tt) h) lane_number lane_given) lane_of) (λ l. l.lane)
    (λ l h. refl) (λ l h. h) (λ v h. h)

-- ---- the target before any tokens that aren't a part of it

abbrev is_memory_0 : MemArgTargetModel → Bool
is_memory_0 (memory i) = is_index_0 i
is_memory_0 (array i) = false

-- a target that isn't omitted
full_target : Unparses
    (told_form no_type array_follows (group_form (codes "type") index_form)
    (filled_form begins_index index_form))
    (pick array (λ o. memory (unwrap_or o (number 0)))) target
unfolding target index_or_0
full_target =
    told_prints no_type (second_word (codes "type"))
    (made_prints (group_prints index_prints (codes "type") refl refl) array)
    (made_prints (made_prints (filled_prints at_index index_prints (search rules))
    (λ o. unwrap_or o (number 0))) memory) (λ i r h k. refl) (search rules)

target_here : (t : MemArgTargetModel) (x : List Token) → target_form.ready t ≡ true
    → no_type x ≡ true
    → (is_memory_0 t ≡ true → target_form.follows x ≡ true)
    → target.spells t (target_form.spell t) x
target_here (memory (number zero)) x f e k = target_prints.here (memory (number 0)) x f (k refl)
target_here (memory (number (suc n))) x f e k =
    full_target.here (inr (Some (number (suc n)))) x f (rw e refl)
target_here (memory (name y)) x f e k = full_target.here (inr (Some (name y))) x f (rw e refl)
target_here (array i) x f e k = full_target.here (inl i) x f (rw e refl)

-- ---- accesses to one lane

-- the tokens of the offset and the alignment; the flags are true if they are omitted
abbrev two_words : Bool → Bool → ℕ → ℕ → List Token
two_words b c n k =
    spell_option (numbered_form (codes "offset=") is_u64).spell (if b then None else Some n)
    ++ spell_option (numbered_form (codes "align=") is_alignment).spell
    (if c then None else Some k)

-- no tokens of the offset and the alignment are read as a target
words_follow : (b c : Bool) (n k : ℕ) (l : List ℕ) (r : List Token) → b && c ≡ false
    → target_form.follows (two_words b c n k ++ Integer l ∷ r) ≡ true
words_follow true true n k l r e = absurd cc
words_follow true false n k l r e = refl
words_follow false true n k l r e = refl
words_follow false false n k l r e = refl

not_alone : (t : MemArgTargetModel) (b c : Bool) (n k : ℕ) (l : List ℕ) (r : List Token)
    → is_memory_0 t && (b && c) ≡ false
    → is_alone (((target_form.spell t ++ two_words b c n k) ++ Integer l ∷ []) ++ r) ≡ false
unfolding past_front
not_alone (memory (number zero)) true true n k l r h = absurd cc
not_alone (memory (number zero)) true false n k l r h = refl
not_alone (memory (number zero)) false c n k l r h = refl
not_alone (memory (number (suc m))) false c n k l r h = refl
not_alone (memory (number (suc m))) true false n k l r h = refl
not_alone (memory (number (suc m))) true true n k l r h = refl
not_alone (memory (name y)) b c n k l r h = refl
not_alone (array i) b c n k l r h = refl

module _ (a : ℕ) where
  -- nothing is written before the lane
  abbrev is_default : Address → Bool
  is_default v = is_memory_0 v.0 && ((v.1.0 == 0) && (v.1.1 == a))

  address_here : (v : Address) (l : List ℕ) (r : List Token) → (address_form a).ready v ≡ true
      → is_default v ≡ false
      → (mem_arg a).spells (mem_arg_of v) ((address_form a).spell v) (Integer l ∷ r)
  unfolding mem_arg past_front
  address_here v l r h b =
      let k = and_parts (target_form.ready v.0) ((fields_form a).ready v.1) h in
      let s = (fields_form a).spell v.1 in
      let x = Integer l ∷ r in
      let e = (fields_prints a).front no_type no_type (search rules) v.1 x k.1 refl refl in (
        v,
        (
          target_form.spell v.0,
          s,
          refl,
          target_here v.0 (s ++ x) k.0 e (λ m.
              words_follow (v.1.0 == 0) (v.1.1 == a) v.1.0 v.1.1 l r (rw m at b)),
          (fields_prints a).here v.1 x k.1 refl,
        ),
        refl,
        refl,
      )

  default_is : (t : MemArgTargetModel) (n k : ℕ) → is_default (t, (n, k)) ≡ true
      → ◌≡◌ {A = Address} (memory (number 0), (0, a)) (t, (n, k))
  default_is t n k b = grind arith

  lane_by : (b : Bool) (v : Address) (l : LaneArg) (r : List Token) → is_default v ≡ b
      → (address_form a).ready v ≡ true → lane_form.ready l ≡ true → goes_on r ≡ false
      → (lane_access a).spells (access_of (mem_arg_of v, l))
      ((address_form a).spell v ++ lane_form.spell l) r
  unfolding lane_access
  lane_by true v l r b h k e =
      subst (λ (w : Address). (lane_access a).spells (access_of (mem_arg_of w, l))
      ((address_form a).spell w ++ lane_form.spell l) r) (default_is v.0 v.1.0 v.1.1 b)
      (rw (same_number a) (inl (ap not e, (l, lane_prints.here l r k refl, refl, refl))))
  lane_by false v l r b h k e =
      inr (
        not_alone v.0 (v.1.0 == 0) (v.1.1 == a) v.1.0 v.1.1 (decimal l.lane) r b,
        (
          (mem_arg_of v, l),
          (
            (address_form a).spell v,
            lane_form.spell l,
            refl,
            address_here v (decimal l.lane) r h b,
            lane_prints.here l r k refl,
          ),
          refl,
          refl,
        ),
      )

  lane_only : (w : LaneAccessModel) (c r : List Token) → each is_given c ≡ true
      → (lane_access a).spells w c r → printable_lane_access a w ≡ true
  unfolding lane_access
  lane_only w c r g (inl s) =
      subst (λ (x : LaneAccessModel). printable_lane_access a x ≡ true) s.1.3
      (rw (same_number a, (prints_only lane_prints).holds s.1.0 c r g s.1.1) refl)
  lane_only w c r g (inr s) =
      let x = s.1.1 in
      let k = given_parts c x.0 x.1 x.2 g in
      subst (λ (x : LaneAccessModel). printable_lane_access a x ≡ true) s.1.3 (rw (
        (prints_only (access_prints a)).holds s.1.0.0 x.0 (x.1 ++ r) k.0 x.3,
        (prints_only lane_prints).holds s.1.0.1 x.1 r k.1 x.4,
      ) refl)

  lane_front : (rest test : Test) → (address_form a).Fronts any test × OfIntegers rest test
      → (v : Address × LaneArg) (r : List Token)
      → (address_form a).ready v.0 && lane_form.ready v.1 ≡ true → rest r ≡ true
      → test (((address_form a).spell v.0 ++ lane_form.spell v.1) ++ r) ≡ true
  lane_front rest test f v r h i =
      let k = and_parts ((address_form a).ready v.0) (lane_form.ready v.1) h in
      subst (λ (x : List Token). test x ≡ true)
      (sym (append_assoc ((address_form a).spell v.0) (lane_form.spell v.1) r))
      ((address_prints a).front any test f.0 v.0 (lane_form.spell v.1 ++ r) k.0 refl
      (f.1 (decimal v.1.lane) r i))

  place_ready : (l : LaneAccessModel) → printable_lane_access a l ≡ true
      → ((address_form a).ready (address_of l.memarg) ≡ true) × (lane_form.ready l.lane ≡ true)
  place_ready l h =
      let k = and_parts (printable_access a l.memarg) (lane_form.printable l.lane) h in
      let m = l.memarg in
      ((and_parts ((address_form a).printable (address_of m)) (is_none m.ordering) k.0).0, k.1)

  lane_access_here : (l : LaneAccessModel) (r : List Token) → printable_lane_access a l ≡ true
      → not (goes_on r) ≡ true
      → (lane_access a).spells l ((lane_access_form a).spell l) r
  lane_access_here l r h e =
      let v = address_of l.memarg in
      let w = place_ready l h in
      let o = and_parts (printable_access a l.memarg) (lane_form.printable l.lane) h in
      subst (λ (m : MemArgModel). (lane_access a).spells (access_of (m, l.lane))
      ((lane_access_form a).spell l) r) (unordered a l.memarg o.0)
      (lane_by (is_default v) v l.lane r refl w.0 w.1 (not-true (goes_on r) e))

  pub lane_access_prints : Prints (lane_access_form a) (lane_access a)
  lane_access_prints = record {
    nests = λ l h. (let w = place_ready l h in
        well_formed_both ((address_form a).spell (address_of l.memarg)) (lane_form.spell l.lane)
        ((address_prints a).nests (address_of l.memarg) w.0) (lane_prints.nests l.lane w.1));
    front = λ rest test f l r h i e. (let w = place_ready l h in
        lane_front rest test f (lane_access_parts l) r (rw (w.0, w.1) refl) i);
    here = lane_access_here;
    only = λ l c r g s. (l, refl, lane_only l c r g s);
  }

-- The hint for an index, and the lines of instructions.
use Rattle.std.proofs.Common.{set, length-set, eqb, ◌≡◌, ◌≢◌, ℕ, ◌+◌, ◌<◌, ◌≤◌, List, [], ◌∷◌, ◌++◌, length, get_or, take, refl, sym, ◌∙◌, ap, arith, append_assoc, append-nil, subst, ◌==◌, Bool, true, false, if◌then◌else◌, Option, Some, None, is_some, map, Result, Ok, Err, OnOk}
use Rattle.std.proofs.lemmas.Bool.{eqb-true, eq-eqb}
use Rattle.std.proofs.lemmas.Grind.{get_or-set_at}
use Rattle.std.proofs.lemmas.List.{get_or-set_other, map_more, length-take-le}
use Rattle.wat_core.specs.Prelude.{InstructionModel, by_test}
use Rattle.wat_show.specs.Prelude.{length-map, hint_view, expression_view, Instruction, op_in, operand_in, instruction_view, op_word, hint_at, lines, AreMarks, instr_text, shown_operand}
use Rattle.wat_show.specs.Expressions.{line, lines_of}
use Rattle.wat_expr.specs.declared.expression.BranchHint.{BranchHint}
use Rattle.wat_expr.specs.declared.expression.Expression.{Expression}
use Rattle.wat_show.proofs.InstructionText.{instruction_text}
use Rattle.wat_show.proofs.Added.{added_both}

-- one more hint after the others is the hint for its index, if no other hint has this index
pub hint_more : (hs : List (ℕ × ℕ)) (h : ℕ × ℕ) (k : ℕ) → hint_at hs k ≡ None → hint_at (hs ++ h ∷ []) k ≡ (if h.0 == k then Some h.1 else None)
hint_more [] h k e = refl
hint_more (g ∷ hs) h k e =
    by_test (g.0 == k)
    (λ t. absurd (let f : Some g.1 ≡ None = rw t at e in cc))
    (λ t. (let f : hint_at hs k ≡ None = rw t at e in rw t (hint_more hs h k f)))

-- one more hint changes no hint that was found
pub hint_stays : (hs : List (ℕ × ℕ)) (h : ℕ × ℕ) (k v : ℕ) → hint_at hs k ≡ Some v → hint_at (hs ++ h ∷ []) k ≡ Some v
hint_stays [] h k v e = cc
hint_stays (g ∷ hs) h k v e =
    by_test (g.0 == k)
    (λ t. (let f : Some g.1 ≡ Some v = rw t at e in rw t f))
    (λ t. (let f : hint_at hs k ≡ Some v = rw t at e in rw t (hint_stays hs h k v f)))

-- one more hint changes nothing at other indices
pub hint_other : (hs : List (ℕ × ℕ)) (h : ℕ × ℕ) (k : ℕ) → (h.0 == k) ≡ false → hint_at (hs ++ h ∷ []) k ≡ hint_at hs k
hint_other [] h k e = rw e refl
hint_other (g ∷ hs) h k e = rw (hint_other hs h k e) refl

not_same : (i k : ℕ) → i ≢ k → (i == k) ≡ false
not_same i k f = by_test (i == k) (λ t. absurd (f (eqb-true i k t))) (λ t. t)

some_is_there : (o : Option ℕ) → is_some o ≡ true → (w : ℕ) × (o ≡ Some w)
some_is_there None e = absurd cc
some_is_there (Some w) e = (w, refl)

none_is_there : (o : Option ℕ) → is_some o ≡ false → o ≡ None
none_is_there None e = refl
none_is_there (Some w) e = absurd cc

module _ (hs : List (ℕ × ℕ)) (marks : List (Option ℕ)) (i v : ℕ) where
  -- the hint is recorded if it is the first hint for its index
  pub marks_set : i < length marks → is_some (get_or marks i None) ≡ false → AreMarks hs marks → AreMarks (hs ++ (i, v) ∷ []) (set marks i (Some v))
  marks_set lt free are k l =
      by_test (i == k)
      (λ t. (let s = eqb-true i k t in
      let e : hint_at hs k ≡ None = sym (are k (let n = length-set marks i (Some v) in omega arith)) ∙ rw (← s) (none_is_there (get_or marks i None) free) in
      get_or-set_at marks i k (Some v) None (sym s) lt ∙ sym (rw (hint_more hs (i, v) k e, t) refl)))
      (λ t. (let f : k ≢ i = λ e. (let g = eq-eqb i k (sym e) in cc) in
      get_or-set_other marks i k (Some v) None f ∙ are k (let n = length-set marks i (Some v) in omega arith) ∙ sym (hint_other hs (i, v) k t)))

  -- nothing changes if it isn't the first hint
  pub marks_stay : is_some (get_or marks i None) ≡ true → AreMarks hs marks → AreMarks (hs ++ (i, v) ∷ []) marks
  marks_stay taken are k l =
      by_test (i == k)
      (λ t. (let s = eqb-true i k t in
      let w = some_is_there (get_or marks i None) taken in
      let e : get_or marks k None ≡ Some w.0 = rw (← s) (w.1) in
      e ∙ sym (hint_stays hs (i, v) k w.0 (sym (are k l) ∙ e))))
      (λ t. are k l ∙ sym (hint_other hs (i, v) k t))

  -- nothing changes if the index is past the end
  pub marks_past : length marks ≤ i → AreMarks hs marks → AreMarks (hs ++ (i, v) ∷ []) marks
  marks_past past are k l =
      are k l ∙ sym (hint_other hs (i, v) k (not_same i k (λ e. absurd (omega arith))))

-- one more hint is recorded
pub marks_more : (hints : List BranchHint) (n : ℕ) (d : BranchHint) (marks : List (Option ℕ)) → n < length hints → AreMarks (map hint_view (take n hints) ++ hint_view (get_or hints n d) ∷ []) marks → AreMarks (map hint_view (take (n + 1) hints)) marks
marks_more hints n d marks lt are = subst (λ (hs : List (ℕ × ℕ)). AreMarks hs marks) (sym (map_more hint_view hints n d lt)) are

module _ (front : List ℕ) where
  -- one more instruction is one more line
  pub lines_more : (hint : ℕ → Option ℕ) (k : ℕ) (is : List InstructionModel) (i : InstructionModel) (n : ℕ) → k + length is ≡ n → lines front hint k (is ++ i ∷ []) ≡ lines front hint k is ++ line front i (hint n)
  lines_more hint k [] i n e = let f : k ≡ n = omega arith in rw f (append-nil (line front i (hint n)))
  lines_more hint k (j ∷ is) i n e =
      rw (lines_more hint (k + 1) is i n (omega arith)) (sym (append_assoc (line front j (hint k)) (lines front hint (k + 1) is) (line front i (hint n))))

  pub added_line : (hint : ℕ → Option ℕ) (old out new : List ℕ) (instrs : List Instruction) (n : ℕ) (x : Instruction) → n < length instrs → x ≡ get_or instrs n x → out ≡ old ++ lines front hint 0 (map instruction_view (take n instrs)) → new ≡ out ++ line front (instruction_view x) (hint n) → new ≡ old ++ lines front hint 0 (map instruction_view (take (n + 1) instrs))
  added_line hint old out new instrs n x lt is was adds =
      let before = map instruction_view (take n instrs) in
      let count : 0 + length before ≡ n = omega (arith, length-map (take n instrs) instruction_view, length-take-le n instrs (omega arith)) in
      let whole : before ++ instruction_view x ∷ [] ≡ map instruction_view (take (n + 1) instrs) = ap (λ (y : Instruction). before ++ instruction_view y ∷ []) is ∙ sym (map_more instruction_view instrs n x lt) in
      let text : lines front hint 0 (map instruction_view (take (n + 1) instrs)) ≡ lines front hint 0 before ++ line front (instruction_view x) (hint n) = ap (λ (l : List InstructionModel). lines front hint 0 l) (sym whole) ∙ lines_more hint 0 before (instruction_view x) n count in
      adds ∙ ap (λ (l : List ℕ). l ++ line front (instruction_view x) (hint n)) was ∙ append_assoc old (lines front hint 0 before) (line front (instruction_view x) (hint n)) ∙ ap (λ (l : List ℕ). old ++ l) (sym text)

  -- the lines are equal if the hints for their indices are equal
  pub lines_agree : (f g : ℕ → Option ℕ) (k : ℕ) (is : List InstructionModel) → ((j : ℕ) → j < k + length is → f j ≡ g j) → lines front f k is ≡ lines front g k is
  lines_agree f g k [] same = refl
  lines_agree f g k (i ∷ is) same =
      rw (same k (omega arith), lines_agree f g (k + 1) is (λ j l. same j (omega arith))) refl

  -- the lines added for an expression
  pub expression_added : {X E : Type 0} (r : Result X E) (e : Expression) (old new : List ℕ) (marks : List (Option ℕ)) → length marks ≡ length e.instrs.items → AreMarks (map hint_view e.branch_hints.items) marks → OnOk r (new ≡ old ++ lines front (λ k. get_or marks k None) 0 (map instruction_view e.instrs.items)) → OnOk r (new ≡ old ++ lines_of front (expression_view e))
  unfolding lines_of
  expression_added (Ok x) e old new marks count are adds =
      let same : lines front (λ k. get_or marks k None) 0 (map instruction_view e.instrs.items) ≡ lines front (hint_at (map hint_view e.branch_hints.items)) 0 (map instruction_view e.instrs.items) = lines_agree (λ k. get_or marks k None) (hint_at (map hint_view e.branch_hints.items)) 0 (map instruction_view e.instrs.items) (λ j l. are j (omega (arith, length-map e.instrs.items instruction_view))) in
      adds ∙ ap (λ (l : List ℕ). old ++ l) same
  expression_added (Err x) e old new marks count are adds = tt

  -- the lines added for an expression without hints
  pub plain_added : {X E : Type 0} (r : Result X E) (e : Expression) (old new : List ℕ) → e.branch_hints.items ≡ [] → OnOk r (new ≡ old ++ lines front (hint_at []) 0 (map instruction_view e.instrs.items)) → OnOk r (new ≡ old ++ lines_of front (expression_view e))
  unfolding lines_of
  plain_added (Ok x) e old new none adds = rw none adds
  plain_added (Err x) e old new none adds = tt

pub hints_none : {A : Type 0} (n : ℕ) (empty : Bool) (xs : List A) → n ≡ length xs → empty ≡ eqb n 0 → empty ≡ true → xs ≡ []
hints_none n empty [] l b f = refl
hints_none n empty (x ∷ xs) l b f = absurd (let t : n ≡ 0 = eqb-true n 0 (sym b ∙ f) in omega (arith, l, t))

-- the text added for an instruction
pub instruction_added : {X E : Type 0} (r : Result X E) (i : Instruction) (old mid new : List ℕ) → mid ≡ old ++ op_word (op_in i) → OnOk r (new ≡ mid ++ shown_operand (op_in i) (operand_in i)) → OnOk r (new ≡ old ++ instr_text (instruction_view i))
instruction_added r i old mid new was adds =
    subst (λ (l : List ℕ). OnOk r (new ≡ old ++ l)) (sym (instruction_text i)) (added_both r old mid new (op_word (op_in i)) (shown_operand (op_in i) (operand_in i)) was adds)

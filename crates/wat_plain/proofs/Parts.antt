-- The parts of the reader of items make the definition's reader.
use Rattle.std.proofs.Common.{sub-one, ◌≡◌, ◌≢◌, ℕ, zero, suc, ◌-◌, Bool, true, false, List, [], ◌∷◌, drop, arith, Some, None, refl, sym, ◌∙◌, codes, if◌then◌else◌}
use Rattle.wat_expr.specs.Prelude.{bytes_eq, Token, LParen, RParen, Keyword, Annotation, Read, bind, some_of, begins_lparen, begins_group, begins_annotation, by_read, InstructionModel, instruction, instruction_none, Sort, sort, IsBlock, IsIf, IsOther, Items, Folded, Block, IfElse, reads_of, word_front, are_groups, closed, opened, more_by, items_by, items_at}
use Rattle.wat_expr.specs.Laws.Facts.{IsWord}
use Rattle.wat_plain.specs.Parts.{enclosed_by, folded_by, arm_by, else_by, other_by, sort_by, group_by}
use Rattle.wat_expr.specs.Reading as the

pub items_at_zero : (n : ℕ) (t : List Token) → n ≡ 0 → items_at n t ≡ None
unfolding items_at
items_at_zero zero t e = refl
items_at_zero (suc n) t e = absurd (omega arith)

pub items_at_next : (n : ℕ) (t : List Token) → n ≢ 0 → items_at n t ≡ items_by (items_at (n - 1)) t
unfolding items_at
items_at_next zero t h = absurd (h refl)
items_at_next (suc n) t h = rw sub-one refl

-- no token but a word begins an instruction
no_word : (k : Token) (t : List Token) → (IsWord k → ⊥) → instruction.reads (k ∷ t) ≡ None
no_word k t other =
    by_read (instruction.reads (k ∷ t))
    (λ x e. absurd (other (word_front x.0 k t x.1 (reads_of x.0 (k ∷ t) x.1 e))))
    (λ e. e)

-- ---- the parts

shut : {A B : Type 0} (c : Read (Unit {0})) (a : A) (g : A → List Token → Read B)
    → bind (bind c (λ _ d. some_of (a, d))) g ≡ bind c (λ _ d. g a d)
shut (Some x) a g = refl
shut None a g = refl

-- a `)` after what is read
pub enclosed : {A B : Type 0} (x : Read A) (g : A → List Token → Read B)
    → bind (bind x (λ a u. bind (closed u) (λ _ d. some_of (a, d)))) g
    ≡ bind x (λ a u. bind (closed u) (λ _ d. g a d))
enclosed (Some x) g = shut (closed x.1) x.0 g
enclosed None g = refl

module _ (rec : List Token → Read Items) where
  folded_is : (f : Items → Items → Items) (t : List Token)
      → the.group_by rec f t ≡ folded_by rec f t
  folded_is f t = sym (enclosed (rec t) (λ ys d. more_by rec (f ys) d))

  arm_on : {A : Type 0} (x : Read (Unit {0})) (g : Items → List Token → Read A)
      → bind x (λ _ d. bind (rec d) (λ xs u. bind (closed u) (λ _ v. g xs v)))
      ≡ bind (bind x (λ _ d. enclosed_by rec d)) g
  arm_on (Some x) g = sym (enclosed (rec x.1) g)
  arm_on None g = refl

  module _ (i : InstructionModel) (ops : Items) where
    else_is : (th : Items) (t : List Token)
        → bind (opened (codes "else") t) (λ _ e. bind (rec e) (λ el u. bind (closed u)
        (λ _ v. bind (closed v) (λ _ d. more_by rec (IfElse i ops th el) d))))
        ≡ bind (else_by rec t) (λ el d. more_by rec (IfElse i ops th el) d)
    else_is th t =
        arm_on (opened (codes "else") t)
        (λ el v. bind (closed v) (λ _ d. more_by rec (IfElse i ops th el) d))
        ∙ sym (enclosed (arm_by rec (codes "else") t)
        (λ el d. more_by rec (IfElse i ops th el) d))

    other_is : (th : Items) (t : List Token)
        → the.arms_by rec i ops th t ≡ other_by rec i ops th t
    other_is th (RParen ∷ t) = refl
    other_is th [] = else_is th []
    other_is th (k ∷ t) = else_is th (k ∷ t)

    others : (x : Read Items)
        → bind x (λ th w. the.arms_by rec i ops th w) ≡ bind x (λ th w. other_by rec i ops th w)
    others (Some x) = other_is x.0 x.1
    others None = refl

    arms_is : (u : List Token) (b : Bool)
        → (if b then bind (opened (codes "then") u) (λ _ d. bind (rec d) (λ th v. bind (closed v)
        (λ _ w. the.arms_by rec i ops th w))) else None)
        ≡ (if b then bind (arm_by rec (codes "then") u) (λ th v. other_by rec i ops th v) else None)
    arms_is u true =
        arm_on (opened (codes "then") u) (λ th w. the.arms_by rec i ops th w)
        ∙ others (arm_by rec (codes "then") u)
    arms_is u false = refl

  if_on : (i : InstructionModel) (x : Read Items)
      → bind x (λ ops u. if are_groups ops then bind (opened (codes "then") u)
      (λ _ d. bind (rec d) (λ th v. bind (closed v) (λ _ w. the.arms_by rec i ops th w))) else None)
      ≡ bind x (λ ops u. if are_groups ops then bind (arm_by rec (codes "then") u)
      (λ th v. other_by rec i ops th v) else None)
  if_on i (Some x) = arms_is i x.0 x.1 (are_groups x.0)
  if_on i None = refl

  sort_is : (s : Sort) (i : InstructionModel) (t : List Token) → the.sort_by rec s i t ≡ sort_by rec s i t
  sort_is IsOther i t = folded_is (Folded i) t
  sort_is IsBlock i t = folded_is (Block i) t
  sort_is IsIf i t = if_on i (rec t)

  group_on : (x : Read InstructionModel) → bind x (λ i b. the.sort_by rec (sort i) i b)
      ≡ bind x (λ i b. sort_by rec (sort i) i b)
  group_on (Some x) = sort_is (sort x.0) x.0 x.1
  group_on None = refl

  list_group : (t : List Token) → false ≡ begins_group (codes "then") (LParen ∷ t)
      → false ≡ begins_annotation (codes "metadata.code.branch_hint") (LParen ∷ t)
      → items_by rec (LParen ∷ t) ≡ group_by rec t
  list_group [] e f = rw instruction_none refl
  list_group (Keyword w ∷ t) e f =
      let g : bytes_eq w (codes "then") ≡ false = sym e in
      rw g (group_on (instruction.reads (Keyword w ∷ t)))
  list_group (Annotation n ∷ t) e f =
      let g : bytes_eq n (codes "metadata.code.branch_hint") ≡ false = sym f in
      rw (g, no_word (Annotation n) t (λ h. h)) refl
  list_group (k ∷ t) e f = rw (no_word k t (λ h. h)) refl

  -- behind a `(` that neither `then` nor a hint's name follows
  pub list_open : (t u : List Token) → true ≡ begins_lparen t → u ≡ drop 1 t
      → false ≡ begins_group (codes "then") t
      → false ≡ begins_annotation (codes "metadata.code.branch_hint") t
      → items_by rec t ≡ group_by rec u
  list_open (LParen ∷ t) u o d e f = rw d (list_group t e f)
  list_open [] u o d e f = absurd cc
  list_open (_ ∷ t) u o d e f = absurd cc

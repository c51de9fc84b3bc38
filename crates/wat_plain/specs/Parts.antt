-- The parts of the readers of items and of groups, in the order of a program.
use Rattle.std.specs.Prelude.{ℕ, suc, nat_lt, if◌then◌else◌, List, [], ◌∷◌, length, Some, None, codes}
use Rattle.wat_expr.specs.Prelude.{Token, Read, bind, some_of, one_reads, as_lparen, InstructionModel, instruction, Sort, sort, IsBlock, IsIf, IsOther, Items, Plain, Folded, Block, IfThen, IfElse, Hinted, Groups, Group, are_groups, begins_branch, closed, opened, more_by}
use Rattle.wat_expr.specs.Folded.{groups_at}
use Rattle.wat_tokens.specs.Tests.{as_string, annotation_only}

-- ---- hints

-- a byte, 0 or 1
abbrev pub bit_of : List ℕ → List Token → Read ℕ
bit_of (v ∷ []) r = if nat_lt v 2 then Some (v, r) else None
bit_of _ r = None

abbrev pub bit : List Token → Read ℕ
bit t = bind (one_reads as_string t) bit_of

-- the value of a hint
abbrev pub hint : List Token → Read ℕ
hint t =
    bind (one_reads as_lparen t)
    (λ _ a. bind (one_reads (annotation_only (codes "metadata.code.branch_hint")) a)
    (λ _ b. bind (bit b) (λ v c. bind (closed c) (λ _ d. some_of (v, d)))))

-- what is read, and a `)`
abbrev pub enclosed_by : {A : Type 0} → (List Token → Read A) → List Token → Read A
enclosed_by rec t = bind (rec t) (λ a u. bind (closed u) (λ _ d. some_of (a, d)))

module _ (rec : List Token → Read Items) where
  abbrev pub hinted_by : List Token → Read Items
  hinted_by t =
      bind (hint t)
      (λ v d. bind (rec d) (λ xs r. if begins_branch xs then Some (Hinted v xs, r) else None))

  -- ---- items

  abbrev pub plain_by : List Token → Read Items
  plain_by t = bind (instruction.reads t) (λ i m. more_by rec (Plain i) m)

  -- items and `)`, and the items after them
  abbrev pub folded_by : (Items → Items → Items) → List Token → Read Items
  folded_by f t = bind (enclosed_by rec t) (λ ys d. more_by rec (f ys) d)

  -- an arm of an `if`
  abbrev pub arm_by : List ℕ → List Token → Read Items
  arm_by w t = bind (opened w t) (λ _ d. enclosed_by rec d)

  -- the second arm of an `if` and the `)` of its group
  abbrev pub else_by : List Token → Read Items
  else_by t = bind (arm_by (codes "else") t) (λ el u. bind (closed u) (λ _ d. some_of (el, d)))

  -- the rest of the group of an `if` after its first arm, by whether a `)` is next
  abbrev pub other_on : InstructionModel → Items → Items → Read (Unit {0}) → List Token → Read Items
  other_on i ops th (Some x) t = more_by rec (IfThen i ops th) x.1
  other_on i ops th None t = bind (else_by t) (λ el d. more_by rec (IfElse i ops th el) d)

  abbrev pub other_by : InstructionModel → Items → Items → List Token → Read Items
  other_by i ops th t = other_on i ops th (closed t) t

  -- the rest of the group of an `if` after its instruction
  abbrev pub if_by : InstructionModel → List Token → Read Items
  if_by i t =
      bind (rec t) (λ ops u. if are_groups ops then bind (arm_by (codes "then") u)
      (λ th v. other_by i ops th v) else None)

  -- the rest of a group after its instruction
  abbrev pub sort_by : Sort → InstructionModel → List Token → Read Items
  sort_by IsOther i t = folded_by (Folded i) t
  sort_by IsBlock i t = folded_by (Block i) t
  sort_by IsIf i t = if_by i t

  -- the rest of a group after its `(`
  abbrev pub group_by : List Token → Read Items
  group_by t = bind (instruction.reads t) (λ i b. sort_by (sort i) i b)

-- ---- groups

-- the rest of a group after its `(`, and the groups after the group
abbrev pub next_group_by : (List Token → Read Groups) → List Token → Read Groups
next_group_by rec t =
    bind (instruction.reads t) (λ i b. bind (enclosed_by rec b)
    (λ gs d. bind (rec d) (λ hs r. some_of (Group i gs hs, r))))

-- the rest of one group after its `(`
abbrev pub one_group : List Token → Read (InstructionModel × Groups)
one_group t =
    bind (instruction.reads t) (λ i b. bind (enclosed_by (groups_at (suc (length b))) b)
    (λ gs r. some_of ((i, gs), r)))

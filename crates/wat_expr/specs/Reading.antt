-- The reader of an expression: it reads the items that `lists` relates to the tokens.
use Rattle.std.specs.Prelude.{ℕ, zero, suc, nat_lt, Bool, true, false, if◌then◌else◌, List, [], ◌∷◌, length, Some, None, codes}
use Rattle.wat_instr.specs.Prelude.{bytes_eq, Token, LParen, RParen, Keyword, Annotation, String, Read, bind, some_of, ends, InstructionModel, instruction, is_br_if}
use Rattle.wat_expr.specs.Items.{Sort, sort, IsBlock, IsIf, IsOther, Items, Nil, Plain, Folded, Block, IfThen, IfElse, Hinted, is_branch}
use Rattle.wat_expr.specs.Expression.{ExpressionModel, value_of}

-- ---- the reader; rec reads the lists of items inside groups and after an item

-- `)`
abbrev pub closed : List Token → Read (Unit {0})
closed (RParen ∷ r) = Some (tt, r)
closed _ = None

-- `(` and the keyword w
abbrev pub opened : List ℕ → List Token → Read (Unit {0})
opened w (LParen ∷ Keyword k ∷ r) = if bytes_eq k w then Some (tt, r) else None
opened w _ = None

abbrev pub are_groups : Items → Bool
are_groups Nil = true
are_groups (Plain i xs) = false
are_groups (Folded i ys xs) = are_groups xs
are_groups (Block i ys xs) = are_groups xs
are_groups (IfThen i ops th xs) = are_groups xs
are_groups (IfElse i ops th el xs) = are_groups xs
are_groups (Hinted v xs) = are_groups xs

abbrev pub begins_branch : Items → Bool
begins_branch (Plain i xs) = is_branch i
begins_branch (Folded i ys xs) = is_br_if i.row
begins_branch (IfThen i ops th xs) = true
begins_branch (IfElse i ops th el xs) = true
begins_branch _ = false

module _ (rec : List Token → Read Items) where
  -- the items after an item, with that item
  abbrev pub more_by : (Items → Items) → List Token → Read Items
  more_by f t = bind (rec t) (λ xs r. some_of (f xs, r))

  -- the items of a group and its `)`, and the items after the group
  abbrev pub group_by : (Items → Items → Items) → List Token → Read Items
  group_by f t = bind (rec t) (λ ys u. bind (closed u) (λ _ d. more_by (f ys) d))

  -- the tokens after the `)` of `(then ..)`
  abbrev pub arms_by : InstructionModel → Items → Items → List Token → Read Items
  arms_by i ops th (RParen ∷ e) = more_by (IfThen i ops th) e
  arms_by i ops th t =
      bind (opened (codes "else") t)
      (λ _ e. bind (rec e) (λ el u. bind (closed u)
      (λ _ v. bind (closed v) (λ _ d. more_by (IfElse i ops th el) d))))

  -- the tokens after the instruction of an `if`
  abbrev pub if_by : InstructionModel → List Token → Read Items
  if_by i t =
      bind (rec t) (λ ops u. if are_groups ops then bind (opened (codes "then") u)
      (λ _ d. bind (rec d) (λ th v. bind (closed v) (λ _ w. arms_by i ops th w))) else None)

  -- the tokens after the instruction of a group
  abbrev pub sort_by : Sort → InstructionModel → List Token → Read Items
  sort_by IsOther i t = group_by (Folded i) t
  sort_by IsBlock i t = group_by (Block i) t
  sort_by IsIf i t = if_by i t

  -- the tokens after the annotation of a hint
  abbrev pub hint_by : List Token → Read Items
  hint_by (String (v ∷ []) ∷ RParen ∷ d) =
      if nat_lt v 2 then bind (rec d)
      (λ xs r. if begins_branch xs then Some (Hinted v xs, r) else None) else None
  hint_by _ = None

  -- the tokens after a `(`
  abbrev pub paren_by : List Token → Read Items
  paren_by (Keyword w ∷ t) =
      if bytes_eq w (codes "then") then Some (Nil, LParen ∷ Keyword w ∷ t) else bind
      (instruction.reads (Keyword w ∷ t)) (λ i b. sort_by (sort i) i b)
  paren_by (Annotation n ∷ t) =
      if bytes_eq n (codes "metadata.code.branch_hint") then hint_by t else None
  paren_by _ = None

  -- a list of items
  abbrev pub items_by : List Token → Read Items
  items_by [] = Some (Nil, [])
  items_by (RParen ∷ t) = Some (Nil, RParen ∷ t)
  items_by (LParen ∷ t) = paren_by t
  items_by t = bind (instruction.reads t) (λ i m. more_by (Plain i) m)

-- a list of items, read from fewer than n tokens
unfoldable pub items_at : ℕ → List Token → Read Items
items_at zero t = None
items_at (suc n) t = items_by (items_at n) t

-- ---- the production

abbrev pub to_the_end : Items → List Token → Read ExpressionModel
to_the_end xs r = if ends r then Some (value_of xs, r) else None

abbrev pub expression_reads : List Token → Read ExpressionModel
expression_reads t = bind (items_at (suc (length t)) t) to_the_end

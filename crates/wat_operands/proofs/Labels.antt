-- The parse of the labels of a `br_table`.
use Rattle.std.proofs.Common.{◌≡◌, true, false, List, [], ◌∷◌, ◌++◌, Some, None, refl, ap, sym, ◌∙◌}
use Rattle.wat_operands.specs.Prelude.{Token, Read, Front, bind, some_of, some_is, none_is_not, by_read, after_front, many_reads, many_spells, IndexModel, index, begins_index, NotHeapless, no_items, BrTableModel, br_table_of, heapless_br_table, split, split_list, br_table}
use Rattle.wat_tokens.specs.Laws.Many.{many_stop, many_sound}
use Rattle.wat_operands.specs.Laws.Branch.{split_is}

-- the indices that are read after the first index
abbrev others : List Token → Read (List IndexModel)
others t = many_reads begins_index index t

-- the labels and the default, by the first index and the indices read after it
abbrev with_first : IndexModel → Read (List IndexModel) → Read BrTableModel
with_first i x = bind (bind x (λ is r. some_of ((i, is), r))) (λ a r. some_of (split_list a, r))

pub first_fails : (t : List Token) → index.reads t ≡ None → br_table.reads t ≡ None
unfolding br_table
first_fails t e = rw e refl

after_first : (t t1 : List Token) (i : IndexModel) → index.reads t ≡ Some (i, t1) → br_table.reads t ≡ with_first i (others t1)
unfolding br_table
after_first t t1 i e = rw e refl

pub first_only : (t t1 : List Token) (i : IndexModel) → index.reads t ≡ Some (i, t1) → begins_index t1 ≡ false → br_table.reads t ≡ Some (br_table_of [] i, t1)
first_only t t1 i e k = after_first t t1 i e ∙ ap (with_first i) (many_stop begins_index index t1 k)

last_is : (i : IndexModel) (x : Read (List IndexModel)) (ls : List IndexModel) (d : IndexModel) (t2 : List Token) → after_front (i ∷ []) x ≡ Some (ls ++ d ∷ [], t2) → with_first i x ≡ Some (br_table_of ls d, t2)
last_is i (Some x) ls d t2 m =
    let p = some_is (i ∷ x.0, x.1) (ls ++ d ∷ [], t2) m in
    let whole : split i x.0 ≡ br_table_of ls d = split_is ls d i x.0 (ap (λ (u : List IndexModel × List Token). u.0) p) in
    let rest : x.1 ≡ t2 = ap (λ (u : List IndexModel × List Token). u.1) p in
    ap (λ (b : BrTableModel). some_of (b, x.1)) whole ∙ ap (λ (r : List Token). some_of (br_table_of ls d, r)) rest
last_is i None ls d t2 m = none_is_not (ls ++ d ∷ [], t2) m

pub last_is_default : (t t1 : List Token) (i : IndexModel) (ls : List IndexModel) (d : IndexModel) (t2 : List Token) → index.reads t ≡ Some (i, t1) → after_front (i ∷ []) (others t1) ≡ Some (ls ++ d ∷ [], t2) → br_table.reads t ≡ Some (br_table_of ls d, t2)
last_is_default t t1 i ls d t2 e m = after_first t t1 i e ∙ last_is i (others t1) ls d t2 m

none_read : (i : IndexModel) (x : Read (List IndexModel)) → after_front (i ∷ []) x ≡ None → with_first i x ≡ None
none_read i (Some x) m = none_is_not (i ∷ x.0, x.1) (sym m)
none_read i None m = refl

pub others_fail : (t t1 : List Token) (i : IndexModel) → index.reads t ≡ Some (i, t1) → after_front (i ∷ []) (others t1) ≡ None → br_table.reads t ≡ None
others_fail t t1 i e m = after_first t t1 i e ∙ none_read i (others t1) m

-- if a second index begins, the list of labels isn't empty
label_there : (i : IndexModel) (is : List IndexModel) (r t1 : List Token) → begins_index t1 ≡ true → Front (many_spells begins_index index) t1 (is, r) → no_items (split i is).labels ≡ false
label_there i [] r t1 k s =
    let same : t1 ≡ r = s.1 ∙ ap (λ (c : List Token). c ++ r) s.2.0 in
    absurd (let f : true ≡ false = sym k ∙ ap begins_index same ∙ s.2.1 in cc)
label_there i (j ∷ js) r t1 k s = refl

pub not_heapless : (t t1 : List Token) (i : IndexModel) → index.reads t ≡ Some (i, t1) → begins_index t1 ≡ true → NotHeapless heapless_br_table (br_table.reads t)
not_heapless t t1 i e k =
    rw (after_first t t1 i e)
    (by_read (others t1)
    (λ x f. rw f (label_there i x.0 x.1 t1 k (many_sound begins_index index t1 x f)))
    (λ f. rw f tt))

-- Laws: indices, pairs of indices, and branch tables are read again.
use Rattle.std.proofs.Common.{◌≡◌, true, not, ◌&&◌, List, [], ◌∷◌, ◌++◌, flat_map, rules, refl, ap, sym, ◌∙◌, append_assoc, append-nil, lit≤, arith}
use Rattle.wat_expr.specs.Prelude.{array_of_length, br_table, index_or_0, index_pair, init, copy}
use Rattle.wat_print.specs.Laws.Prelude.{and_parts, flat_map-append, Token, IndexModel, number, begins_index, at_index, second, spell_index, printable_index, each, Prints, behind_prints, seq_prints, made_prints, told_prints, many_prints, restated_prints, respelled, whole_where, each_both, index_prints}
use Rattle.wat_operands.specs.Tables.{into_0}
use Rattle.wat_tokens.specs.Index.{at_second_index}
use Rattle.wat_operands.specs.Branch.{br_table_of, BrTableSpells, split, split_list}
use Rattle.wat_operands.specs.Laws.Branch.{br_table_to, br_table_from}
use Rattle.wat_print_instr.specs.Indices.{is_index_0, index_or_0_form, pair_form, init_parts, init_form, both_0, copy_form, sized_form, table_from, printable_br_table, br_table_form}
use Rattle.wat_print_instr.specs.Laws.Form.{default_prints}
use Rattle.wat_print_instr.specs.Laws.Numbers.{unsigned_prints}

-- ---- one index, or no index

is_0 : (i : IndexModel) → is_index_0 i ≡ true → number 0 ≡ i
is_0 i e = grind arith

pub index_or_0_prints : Prints index_or_0_form index_or_0
unfolding index_or_0
index_or_0_prints =
    default_prints at_index index_prints (search rules) printable_index is_index_0 (number 0)
    is_0 (λ i e h. h) (λ i h. h) refl

-- ---- two indices

pub pair_prints : Prints pair_form index_pair
unfolding index_pair
pair_prints = behind_prints begins_index index_prints index_prints (search rules) (search rules)

pair_second : (p : IndexModel × IndexModel) (r : List Token) → pair_form.ready p ≡ true
    → second begins_index (pair_form.spell p ++ r) ≡ true
pair_second p r h =
    pair_prints.front (λ t. true) (second begins_index) (search rules) p r h refl tt

pub init_prints : Prints init_form init
unfolding init
init_prints =
    whole_where (told_prints (λ r. not (begins_index r)) at_second_index pair_prints
    (made_prints index_prints into_0) (λ p r h e. pair_second p r h) (search rules)) init_parts
    pair_form.printable (λ p h. grind (arith, is_0)) (λ p h. grind arith) (λ v h. grind arith)

pub copy_prints : Prints copy_form copy
unfolding copy
copy_prints =
    default_prints at_index pair_prints (search rules) pair_form.printable both_0
    (number 0, number 0) (λ p e. grind (arith, is_0)) (λ p e h. h) (λ p h. h) refl

-- ---- an index and a length

pub sized_prints : Prints sized_form array_of_length
unfolding array_of_length
sized_prints =
    seq_prints index_prints (unsigned_prints 32 (lit≤ tt) (lit≤ tt)) (search rules)

-- ---- the labels of a branch table

split_last : (l : IndexModel) (ls : List IndexModel) (d : IndexModel)
    → split l (ls ++ d ∷ []) ≡ br_table_of (l ∷ ls) d
split_last l [] d = refl
split_last l (m ∷ ls) d = rw (split_last m ls d) refl

table_whole : (ls : List IndexModel) (d : IndexModel)
    → split_list (table_from ls d) ≡ br_table_of ls d
table_whole [] d = refl
table_whole (l ∷ ls) d = split_last l ls d

table_ready : (ls : List IndexModel) (d : IndexModel)
    → each printable_index ls && printable_index d ≡ true
    → printable_index (table_from ls d).0 && each printable_index (table_from ls d).1 ≡ true
table_ready [] d h = rw h refl
table_ready (l ∷ ls) d h =
    let a = and_parts (each printable_index (l ∷ ls)) (printable_index d) h in
    each_both printable_index (l ∷ ls) (d ∷ []) a.0 (rw (a.1) refl)

table_covers : (i : IndexModel) (is : List IndexModel)
    → printable_index i && each printable_index is ≡ true
    → printable_br_table (split i is) ≡ true
table_covers i [] h = (and_parts (printable_index i) true h).0
table_covers i (j ∷ js) h =
    let a = and_parts (printable_index i) (each printable_index (j ∷ js)) h in
    rw (a.0) (table_covers j js a.1)

default_last : (ls : List IndexModel) (d : IndexModel)
    → flat_map spell_index (ls ++ d ∷ []) ≡ flat_map spell_index ls ++ spell_index d
default_last ls d =
    flat_map-append spell_index ls (d ∷ [])
    ∙ ap (λ (c : List Token). flat_map spell_index ls ++ c) (append-nil (spell_index d))

table_spelled : (ls : List IndexModel) (d : IndexModel)
    → spell_index (table_from ls d).0 ++ flat_map spell_index (table_from ls d).1
    ≡ flat_map spell_index ls ++ spell_index d
table_spelled [] d = append-nil (spell_index d)
table_spelled (l ∷ ls) d =
    ap (λ (c : List Token). spell_index l ++ c) (default_last ls d)
    ∙ sym (append_assoc (spell_index l) (flat_map spell_index ls) (spell_index d))

pub br_table_prints : Prints br_table_form br_table
unfolding br_table
br_table_prints =
    respelled (whole_where (restated_prints (made_prints (seq_prints index_prints
    (many_prints at_index index_prints (lit≤ tt) (search rules) (search rules))
    (search rules)) split_list) BrTableSpells br_table_to br_table_from)
    (λ b. table_from b.labels b.default) printable_br_table (λ b h. table_whole b.labels b.default)
    (λ b h. table_ready b.labels b.default h) (λ v h. table_covers v.0 v.1 h))
    (λ b. flat_map spell_index b.labels ++ spell_index b.default)
    (λ b h. table_spelled b.labels b.default)

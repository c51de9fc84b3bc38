-- Laws: tables are read again.
use Rattle.std.proofs.Common.{◌≡◌, ℕ, Bool, true, false, not, ◌&&◌, List, [], ◌∷◌, ◌++◌, codes, flat_map, map, Option, Some, None, option_map, ◌⊎◌, rules, arith, refl, ap, subst, sym, ◌∙◌, append_assoc, inl, inr}
use Rattle.std.specs.Cmp.{booleans_Decides}
use Rattle.wat_core.specs.Prelude.{Test, is_64, table_type, ref_type, ElemPayloadModel, indices, exprs, item_list, is_funcref, TableKindModel, inline, begins_inline_elems, normal_table, table_kind, table}
use Rattle.wat_print_instr.specs.Laws.Prelude.{Decides, bytes_decides, bytes_eq, beq, and_parts, Decides-like, Decides-and, bytes_eq-Decides, Token, Keyword, group, IndexModel, same_index, seq, made, opt, where_else, Production, begins_word, begins_lparen, begins_integer, more, ends, at_lparen, run, at_more, HeapTypeModel, concrete, exact, abstract_, abstract_word, RefTypeModel, begins_ref, at_shorthand, AbstractHeapType, InstructionModel, ExpressionModel, expression, Items, Nil, Folded, IfThen, IfElse, Hinted, lists, unfolded, any, Form, pick, else_form, printable_index, Writes, table_parts, spell_option, each, if_some, Prints, Unparses, Page, WellFormed, nothing, is_given, seq_prints, behind_prints, made_prints, whole_prints, whole_where, only_where_prints, told_prints, else_prints, after_prints, group_prints, prints_only, width_prints, table_prints, ref_prints, no_short, step_of, spell_step, printable_step, steps_from, spell_expression, printable_expression, passes, next_step, plain_prints, short_word}
use Rattle.wat_print_module.specs.Prelude.{elem_items_form, ends_expression, expression_prints, inline_import_prints, head_prints, no_export}
use Rattle.wat_types.specs.Limits.{table_type_of}
use Rattle.wat_fields.specs.Payload.{ref_func_of, by_index, by_item, of_type, elem_list}
use Rattle.wat_fields.specs.Table.{imported, normal, table_of, inline_of, inline_table, imported_table, at_inline_elems, at_normal}
use Rattle.wat_tokens.specs.Parts.{flag}
use Rattle.wat_print.specs.Laws.Form.{flag_prints}
use Rattle.wat_print.specs.Laws.Limits.{limits_prints}
use Rattle.wat_tokens.specs.Laws.Index.{same_index_decides}
use Rattle.wat_expr.specs.Progress.{Fits}
use Rattle.wat_print_module.specs.Table.{where_form, same_heap, same_ref, some_items, listed_form, listed_parts, printable_elements, elems_form, InlineTree, inline_table_form, apart, no_ref, type_form, printable_initial, initial_form, normal_table_form, imported_table_form, KindTree, table_kind_parts, printable_table_kind, table_kind_form, table_field_parts, table_field_form}
use Rattle.wat_print_module.specs.Laws.Elem.{short_begins, elem_items_prints, elem_indices_prints}
use Rattle.wat_print_module.specs.Laws.Folded.{Steps}
use Rattle.wat_types.specs.Laws.Named.{abstract_is_named}

module _ {A B C : Type 0} {form : Form A} {other : Form B} {view : A → C} {also : B → C}
    {g h : Production C} (test : Test) (ok : A → Bool) (p : Unparses form view g)
    (q : Unparses other also h)
    (found : (a : A) (c r : List Token) → run test (c ++ r) ≡ true → g.spells (view a) c r
    → ok a ≡ true)
  where
    tested_only : (w : C) (c r : List Token) → each is_given c ≡ true
        → (where_else test g h).spells w c r
        → (v : A ⊎ B) × (pick view also v ≡ w)
        × (pick (where_form ok form).printable other.printable v ≡ true)
    tested_only w c r a (inl k) =
        let x = p.only w c r a k.1 in
        let s = subst (λ (u : C). g.spells u c r) (sym x.1) k.1 in
        (inl x.0, x.1, rw (found x.0 c r k.0 s, x.2) refl)
    tested_only w c r a (inr k) = let x = q.only w c r a k.1 in (inr x.0, x.1, x.2)

    -- if the test passes, only values that pass `ok` are read
    pub tested_prints : ((a : A) (r : List Token) → ok a && form.ready a ≡ true
        → run test (form.spell a ++ r) ≡ true)
        → other.Fronts any (λ t. not (run test t))
        → Unparses (else_form (λ t. run test t) (where_form ok form) other) (pick view also)
        (where_else test g h)
    tested_prints m f =
        let t = told_prints any test (only_where_prints p ok) q (λ a r k e. m a r k) f in
        record { nests = t.nests; front = t.front; here = t.here; only = tested_only }

-- ---- types that are the same

word_decides : (t u : AbstractHeapType)
    → Decides (bytes_eq (abstract_word t) (abstract_word u)) (t ≡ u)
word_decides t u =
    Decides-like (bytes_eq (abstract_word t) (abstract_word u)) (λ e. cc (abstract_is_named t, abstract_is_named u))
    (ap abstract_word) (bytes_eq-Decides (abstract_word t) (abstract_word u))

heap_decides : (h k : HeapTypeModel) → Decides (same_heap h k) (h ≡ k)
heap_decides (concrete i) (concrete j) =
    Decides-like (same_index i j) (ap concrete) (λ e. cc) (same_index_decides i j)
heap_decides (exact i) (exact j) =
    Decides-like (same_index i j) (ap exact) (λ e. cc) (same_index_decides i j)
heap_decides (abstract_ a t) (abstract_ b u) =
    Decides-like (same_heap (abstract_ a t) (abstract_ b u)) (λ e. cc (e.0, e.1)) (λ e. (cc, cc))
    (Decides-and (beq a b) _ (booleans_Decides a b) (word_decides t u))
heap_decides _ _ = (λ h. absurd cc, λ h. absurd cc)

ref_decides : (t u : RefTypeModel) → Decides (same_ref t u) (t ≡ u)
ref_decides t u =
    Decides-like (same_ref t u) (λ e. (rw (e.0, e.1) refl)) (λ e. (cc, cc))
    (Decides-and (beq t.nullable u.nullable) _ (booleans_Decides t.nullable u.nullable)
    (heap_decides t.heap u.heap))

ref_again : (t : RefTypeModel) → same_ref t t ≡ true
ref_again t = (ref_decides t t).1 refl

-- ---- elements

items_begin : (es : List ExpressionModel) (r : List Token)
    → some_items es && elem_items_form.ready es ≡ true
    → begins_lparen (elem_items_form.spell es ++ r) ≡ true
items_begin es r h = grind arith

items_found : (es : List ExpressionModel) (c r : List Token) → begins_lparen (c ++ r) ≡ true
    → (made by_item item_list).spells (by_item es) c r → some_items es ≡ true
unfolding item_list
items_found (e ∷ es) c r t s = refl
items_found [] c r t (e ∷ es, s, k, f) = absurd cc
items_found [] c r t ([], s, k, f) = let m : begins_lparen r ≡ true = rw (s.0) at t in grind arith

listed_prints : Unparses listed_form (pick by_item by_index) elem_list
unfolding elem_list
listed_prints =
    tested_prints at_lparen some_items (made_prints elem_items_prints by_item)
    (made_prints elem_indices_prints by_index) items_found items_begin (search rules)

-- the elements are printable as the elements of a table, and are read as the same elements
elements_are : (t : RefTypeModel) (p : ElemPayloadModel) → printable_elements t p ≡ true
    → of_type t (pick by_item by_index (listed_parts p)) ≡ p
elements_are t (indices is) h = grind arith
elements_are t (exprs u es) h =
    let a = (ref_decides t u).0 (and_parts (same_ref t u) _ h).0 in grind arith

elements_ready : (t : RefTypeModel) (p : ElemPayloadModel) → printable_elements t p ≡ true
    → listed_form.ready (listed_parts p) ≡ true
elements_ready t (indices is) h = (and_parts (is_funcref t) _ h).1
elements_ready t (exprs u []) h = refl
elements_ready t (exprs u (e ∷ es)) h =
    let a = and_parts (same_ref t u) _ h in
    (and_parts (not (is_funcref t && false)) (elem_items_form.printable (e ∷ es)) a.1).1

funcs_printable : (is : List IndexModel) → each printable_index is ≡ true
    → each printable_expression (map ref_func_of is) ≡ true
funcs_printable [] f = refl
funcs_printable (i ∷ is) f =
    let a = and_parts (printable_index i) (each printable_index is) f in
    rw (a.0) (funcs_printable is a.1)

elements_fit : (t : RefTypeModel) (v : List ExpressionModel ⊎ List IndexModel)
    → listed_form.printable v ≡ true
    → printable_elements t (of_type t (pick by_item by_index v)) ≡ true
elements_fit t v h = grind (arith, ref_again, funcs_printable)

-- items that are written are written as the elements of a table
pub items_written : (t : RefTypeModel) (es : List ExpressionModel) (a b : Page)
    → Writes (elem_items_form.spell es) a b
    → Writes (listed_form.spell (listed_parts (exprs t es))) a b
items_written t [] a b w = w
items_written t (e ∷ es) a b w = w

-- ---- inline elements

-- no shorthand is `shared`, `i64` or `i32`
short_width : (t : AbstractHeapType) → not (bytes_eq (short_word t) (codes "i64"))
    && not (bytes_eq (short_word t) (codes "i32")) ≡ true
short_width t = rw (no_short (codes "i64") refl t, no_short (codes "i32") refl t) refl

elems_prints : Unparses elems_form (λ v. (v.0, pick by_item by_index v.1))
    (seq ref_type (group (codes "elem") elem_list))
elems_prints =
    seq_prints ref_prints (group_prints listed_prints (codes "elem") refl refl) (search rules)

abbrev inline_view : InlineTree → TableKindModel
inline_view v = inline_of (v.0, (v.1.0, (v.1.1.0, pick by_item by_index v.1.1.1)))

inline_prints : Unparses inline_table_form inline_view inline_table
unfolding inline_table
inline_prints =
    made_prints (seq_prints (flag_prints (codes "shared") refl refl)
    (seq_prints width_prints elems_prints (λ y e. refl, (tt, λ t y e. short_width t)))
    ((λ y e. refl, λ y e. refl), (λ y e. refl, (tt, λ t y e. no_short (codes "shared") refl t)))) inline_of

elems_begin : (v : RefTypeModel × (List ExpressionModel ⊎ List IndexModel)) (r : List Token)
    → elems_form.ready v ≡ true
    → begins_ref (elems_form.spell v ++ r) ≡ true
unfolding at_shorthand
elems_begin v r h =
    elems_prints.front any begins_ref (λ y e. refl, (tt, λ t y e. (short_begins t y))) v r h refl tt

inline_begins : (v : InlineTree) (r : List Token) → apart v && inline_table_form.ready v ≡ true
    → begins_inline_elems (inline_table_form.spell v ++ r) ≡ true
unfolding at_shorthand
inline_begins (true, (true, v)) r h = absurd cc
inline_begins (false, (false, v)) r h = rw (elems_begin v r h) refl
inline_begins (_, (_, v)) r h = rw (elems_begin v r h) refl

begins_is : (w : List ℕ) (t : List Token) → begins_word w t ≡ true
    → (z : List Token) × (t ≡ Keyword w ∷ z)
begins_is w t e = search (rules, bytes_decides)

flag_is : (w : List ℕ) (b : Bool) (d x : List Token) → b ≡ true → (flag w).spells b d x
    → d ++ x ≡ Keyword w ∷ x
flag_is w b d x f (None, s, k, e) = absurd cc
flag_is w b d x f (Some u, s, k, e) =
    let z = begins_is w (s.1.0 ∷ x) (rw (s.1.1) at s.0) in cc

wide_is : (b : Bool) (d x : List Token) → b ≡ true → is_64.spells b d x
    → (z : List Token) × (d ++ x ≡ Keyword (codes "i64") ∷ z)
unfolding is_64
wide_is b d x f (inl s) = begins_is (codes "i64") (d ++ x) s.0
wide_is b d x f (inr s) = let e = s.1.3 in absurd cc

inline_found : (v : InlineTree) (c r : List Token) → begins_inline_elems (c ++ r) ≡ true
    → inline_table.spells (inline_view v) c r → apart v ≡ true
unfolding inline_table at_shorthand
inline_found (true, (true, v)) c r t (w, s, k, e) =
    let a : w.0 ≡ true = cc in
    let b : w.1.0 ≡ true = cc in
    let f = flag_is (codes "shared") w.0 s.0 (s.1 ++ r) a s.3 in
    let g = wide_is w.1.0 s.4.0 (s.4.1 ++ r) b s.4.3 in
    let both : c ++ r ≡ Keyword (codes "shared") ∷ Keyword (codes "i64") ∷ g.0 =
    cc (append_assoc s.0 s.1 r, append_assoc s.4.0 s.4.1 r) in
    let h = subst (λ (l : List Token). begins_inline_elems l ≡ true) both t in absurd cc
inline_found (_, (_, v)) c r t s = refl

-- ---- tables with a table type

type_prints : Prints type_form table_type
unfolding table_type at_shorthand
type_prints =
    whole_prints (made_prints (behind_prints no_ref (flag_prints (codes "shared") refl refl)
    (seq_prints limits_prints ref_prints (search rules)) (search rules) (search rules))
    table_type_of) table_parts (λ t h. refl) (λ t h. h) (λ v h. h)

steps_more : (h : Option ℕ) (i : InstructionModel) (o : Steps) (r : List Token)
    → passes (each printable_step) (option_map (λ xs. step_of h i ∷ xs) o) ≡ true
    → more (spell_option (flat_map spell_step) (option_map (λ xs. step_of h i ∷ xs) o) ++ r)
    ≡ true
steps_more h i o r f = grind arith

instrs_more : (is : List InstructionModel) (hs : List (ℕ × ℕ)) (r : List Token)
    → some_items is ≡ true
    → passes (each printable_step) (steps_from 0 is hs) ≡ true
    → more (spell_option (flat_map spell_step) (steps_from 0 is hs) ++ r) ≡ true
instrs_more [] hs r e f = absurd cc
instrs_more (i ∷ is) hs r e f =
    let same = next_step 0 i is hs in rw same (steps_more _ i _ r (rw same at f))

behind_some : {A : Type 0} (a : List A) (x : A) (b c : List A)
    → some_items ((a ++ x ∷ b) ++ c) ≡ true
behind_some [] x b c = refl
behind_some (y ∷ a) x b c = refl

-- items after a hint, and items of at least one token, unfold to at least one instruction
items_some : (p : Option ℕ) (xs : Items) (t r : List Token) → Fits p xs → lists xs t r
    → (p ≡ None → t ≡ r → ⊥) → some_items (unfolded xs) ≡ true
items_some None Nil t r f l n = absurd (n refl l)
items_some (Some v) Nil t r f l n = absurd f
items_some p (Folded i ys xs) t r f l n = behind_some (unfolded ys) i [] (unfolded xs)
items_some p (IfThen i ops th xs) t r f l n = behind_some (unfolded ops) i _ (unfolded xs)
items_some p (IfElse i ops th el xs) t r f l n = behind_some (unfolded ops) i _ (unfolded xs)
items_some None (Hinted v xs) t r f l n = items_some (Some v) xs l.0 r l.3 l.4 (λ e q. cc)
items_some (Some u) (Hinted v xs) t r f l n = absurd f
items_some p _ t r f l n = refl

initial_here : (o : Option ExpressionModel) (r : List Token) → if_some printable_initial o ≡ true
    → ends_expression r ≡ true
    → (opt at_more expression).spells o (spell_option spell_expression o) r
initial_here (Some e) r h k =
    let a = and_parts (some_items e.instrs) (printable_expression e) h in
    (instrs_more e.instrs e.hints r a.0 a.1, expression_prints.here e r a.1 k)
initial_here None r h k = (refl, rw ((and_parts (ends r) _ k).0) refl)

initial_only : (o : Option ExpressionModel) (c r : List Token) → each is_given c ≡ true
    → (opt at_more expression).spells o c r → if_some printable_initial o ≡ true
unfolding expression
initial_only (Some e) c r a s =
    let x = s.1 in
    rw (
      subst (λ (v : ExpressionModel). some_items v.instrs ≡ true) (sym x.3)
          (items_some None x.0 (c ++ r) r tt x.1 (λ p q.
          (let e = rw (ap ends q ∙ x.2) at s.0 in cc))),
      (prints_only expression_prints).holds e c r a s.1,
    ) refl
initial_only None c r a s = refl

initial_nests : (o : Option ExpressionModel) → if_some printable_initial o ≡ true
    → WellFormed (spell_option spell_expression o)
initial_nests (Some e) h = expression_prints.nests e (and_parts (some_items e.instrs) _ h).1
initial_nests None h = nothing

initial_prints : Prints initial_form (opt at_more expression)
initial_prints =
    plain_prints (spell_option spell_expression) initial_nests initial_here
    (record { holds = initial_only })

normal_prints : Unparses normal_table_form (λ v. normal v.0 v.1) normal_table
unfolding normal_table
normal_prints =
    made_prints (seq_prints type_prints initial_prints (λ o r h i e. refl)) (λ v. normal v.0 v.1)

-- ---- tables with an import

imported_prints : Unparses imported_table_form (λ v. imported v.0 v.1) imported_table
unfolding imported_table
imported_prints =
    made_prints (seq_prints inline_import_prints table_prints (search rules))
    (λ v. imported v.0 v.1)

-- ---- kinds

abbrev kind_view : KindTree → TableKindModel
kind_view = pick inline_view (pick (λ v. normal v.0 v.1) (λ v. imported v.0 v.1))

kind_is : (k : TableKindModel) → printable_table_kind k ≡ true → kind_view (table_kind_parts k) ≡ k
kind_is (inline t is64 shared p) h =
    ap (λ (q : ElemPayloadModel). inline t is64 shared q) (elements_are t p (search (
      rules,
      and_parts,
    )))
kind_is (normal t o) h = refl
kind_is (imported i t) h = refl

kind_ready : (k : TableKindModel) → printable_table_kind k ≡ true
    → pick (λ v. apart v && inline_table_form.ready v)
    (pick normal_table_form.ready imported_table_form.ready) (table_kind_parts k) ≡ true
kind_ready (inline t is64 shared p) h = search (rules, elements_ready, and_parts)
kind_ready (normal t o) h = h
kind_ready (imported i t) h = h

kind_fits : (v : KindTree)
    → pick (λ v. apart v && inline_table_form.printable v)
    (pick normal_table_form.printable imported_table_form.printable) v ≡ true
    → printable_table_kind (kind_view v) ≡ true
kind_fits v h = grind (arith, elements_fit)

integer_no_ref : (y : List Token) → begins_integer y ≡ true → no_ref y ≡ true
unfolding at_shorthand
integer_no_ref y e = grind arith

table_kind_prints : Prints table_kind_form table_kind
unfolding table_kind at_shorthand
table_kind_prints =
    whole_where (tested_prints at_inline_elems apart inline_prints
    (else_prints at_normal normal_prints imported_prints (search rules) (search rules))
    inline_found inline_begins (search (rules, integer_no_ref))) table_kind_parts
    printable_table_kind kind_is kind_ready kind_fits

-- ---- tables

pub table_field_prints : Prints table_field_form table
unfolding table
table_field_prints =
    whole_prints (after_prints (made_prints (seq_prints head_prints table_kind_prints
    (search (rules, no_export))) (λ v. table_of v.0 v.1)) (codes "table") refl refl)
    table_field_parts (λ t h. refl) (λ t h. h) (λ v h. h)

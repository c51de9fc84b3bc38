-- Laws: indices, heap types, reference types and value types are read again.
use Rattle.std.proofs.Common.{◌≡◌, ℕ, ◌^◌, true, false, not, nat_lt, List, ◌∷◌, ◌++◌, codes, decimal, ◌≤◌, ◌-◌, Option, Some, None, option_map, rules, refl, arith, subst}
use Rattle.wat_types.specs.Prelude.{bytes_eq, ltb-true, nat_tests, unsigned_value, Token, LParen, Keyword, Id, Integer, IndexModel, number, name, index, index_of, at_index, word_in, at_group, at_listed, run, one, concrete, exact, abstract_, heap_type, abstract_heap_type, abstract_word, abstract_words, ref_type, shorthand_for, shorthand, short, shorthand_words, ValTypeModel, i32, ref, val_type, plain_words, v128, short_word, abstract_is_named}
use Rattle.wat_print.specs.Prelude.{AbstractHeapType, Test, each, is_keyword, is_given, WellFormed, is_printable, spell_index, printable_index, index_form, Prints, heap_form, named_form, ref_form, plain_word, val_form}
use Rattle.wat_print.specs.Index.{OfIndices}
use Rattle.wat_print.specs.Reference.{OfNamed, abstract_form, heap_parts, ref_parts, is_plain, val_parts}
use Rattle.wat_print.specs.Laws.Form.{one_prints, flag_prints, seq_prints, made_prints, whole_prints, else_prints, group_prints, unwritten_prints}
use Rattle.wat_print.specs.Laws.Numbers.{decimal_printable, unsigned_decimal, unsigned_fits}
use Rattle.wat_print.specs.Laws.Only.{OnlyPrintable, only_one, word_given, table_word}
use Rattle.wat_print.specs.Laws.Parts.{Spells, well_formed_one}
use Rattle.wat_types.specs.declared.heap.AbstractHeapType.TheVariants as word

-- ---- indices

pub index_here : (i : IndexModel) → printable_index i ≡ true → Spells index i (spell_index i)
index_here (number n) h r =
    let lt = ltb-true n (2 ^ 32) h in
    (Integer (decimal n), refl, rw (unsigned_decimal 32 n (omega arith) (omega arith)) refl)
index_here (name x) h r = (Id x, refl, refl)

pub index_well_formed : (i : IndexModel) → printable_index i ≡ true → WellFormed (spell_index i)
index_well_formed (number n) h =
    let lt = ltb-true n (2 ^ 32) h in
    well_formed_one (Integer (decimal n)) (decimal_printable n (omega arith))
index_well_formed (name x) h = well_formed_one (Id x) h

number_given : (o : Option ℕ) (i : IndexModel) → ((n : ℕ) → o ≡ Some n → n ≤ 2 ^ 32 - 1)
    → option_map number o ≡ Some i → printable_index i ≡ true
number_given None i h e = absurd cc
number_given (Some n) i h e =
    let k : number n ≡ i = cc in
    let le = h n refl in
    let f : nat_lt n (2 ^ 32) ≡ true = grind (arith, nat_tests) in
    subst (λ (j : IndexModel). printable_index j ≡ true) k f

index_given : (t : Token) (i : IndexModel) → is_given t ≡ true → index_of t ≡ Some i
    → printable_index i ≡ true
index_given (Integer x) i a e = number_given (unsigned_value 32 x) i (unsigned_fits 32 x) e
index_given (Id n) i a e =
    let k : name n ≡ i = cc in subst (λ (j : IndexModel). printable_index j ≡ true) k a
index_given LParen i a e = absurd cc
index_given _ i a e = absurd cc

pub index_only : OnlyPrintable index printable_index
index_only = only_one index_of (refl, refl) printable_index index_given

index_fronts : (rest test : Test) → OfIndices rest test → (i : IndexModel) (r : List Token)
    → rest r ≡ true → test (spell_index i ++ r) ≡ true
index_fronts rest test f (number n) r h = f.0 (decimal n) r h
index_fronts rest test f (name x) r h = f.1 x r h

pub index_prints : Prints index_form index
index_prints = record {
  nests = index_well_formed;
  front = λ rest test f i r h k e. index_fronts rest test f i r k;
  here = λ i r h e. index_here i h r;
  only = λ i c r a s. (i, refl, index_only.holds i c r a s);
}

-- ---- words of a table

pub named_prints : {A : Type 0} (table : List (List ℕ × A)) (word : A → List ℕ)
    → ((v : A) → is_keyword (word v) ≡ true)
    → ((v : A) → word_in table (Keyword (word v)) ≡ Some v)
    → Prints (named_form word) (one (word_in table) (refl, refl))
named_prints table word fits reads =
    one_prints (word_in table) (refl, refl) (λ v. Keyword (word v)) (λ _. true) (OfNamed word)
    (λ rest test f v y h k. f v y k) (λ v h. fits v) (λ v h. reads v) (λ t v a e. refl)

-- ---- heap types

abstract_fits : (t : AbstractHeapType) → is_keyword (abstract_word t) ≡ true
abstract_fits word.Func = refl
abstract_fits _ = refl

pub abstract_prints : Prints abstract_form abstract_heap_type
unfolding abstract_heap_type
abstract_prints = named_prints abstract_words abstract_word abstract_fits abstract_is_named

pub heap_prints : Prints heap_form heap_type
unfolding heap_type
heap_prints =
    whole_prints (else_prints at_index (made_prints index_prints concrete)
    (else_prints (at_group (codes "exact"))
    (made_prints (group_prints index_prints (codes "exact") refl refl) exact)
    (else_prints (at_group (codes "shared"))
    (made_prints (group_prints abstract_prints (codes "shared") refl refl) (λ t. abstract_ true t))
    (made_prints abstract_prints (λ t. abstract_ false t)) (search rules) (search rules))
    (search rules) (search rules)) (search rules) (search rules)) heap_parts (λ h k. grind arith)
    (λ h k. k) (λ v k. grind arith)

-- ---- reference types

short_fits : (t : AbstractHeapType) → is_keyword (short_word t) ≡ true
short_fits word.Func = refl
short_fits _ = refl

short_reads : (t : AbstractHeapType)
    → word_in shorthand_words (Keyword (short_word t)) ≡ Some (shorthand_for t)
short_reads word.Func = refl
short_reads _ = refl

short_prints : Prints (named_form short_word) shorthand
unfolding shorthand
short_prints = record {
  nests = λ t h. well_formed_one (Keyword (short_word t)) (short_fits t);
  front = λ rest test f t r h i e. f t r i;
  here = λ t r h e. (
    shorthand_for t,
    (Keyword (short_word t), refl, short_reads t),
    refl,
    refl,
  );
  only = λ t c r a s. (t, refl, refl);
}

no_null : (t : AbstractHeapType) → not (bytes_eq (abstract_word t) (codes "null")) ≡ true
no_null t =
    table_word (λ v. not (bytes_eq v (codes "null"))) abstract_words (abstract_word t) t refl
    (abstract_is_named t)

-- no shorthand is the word
pub no_short : (w : List ℕ) → each (λ e. not (bytes_eq e.0 w)) shorthand_words ≡ true
    → (t : AbstractHeapType) → not (bytes_eq (short_word t) w) ≡ true
no_short w a t =
    table_word (λ v. not (bytes_eq v w)) shorthand_words (short_word t) (shorthand_for t) a
    (short_reads t)

pub ref_prints : Prints ref_form ref_type
unfolding ref_type
ref_prints =
    whole_prints (else_prints (at_group (codes "ref"))
    (made_prints (group_prints (seq_prints (flag_prints (codes "null") refl refl) heap_prints
    (search (rules, no_null))) (codes "ref") refl refl)
    (λ v. record { nullable = v.0; heap = v.1 }))
    (else_prints (at_group (codes "shared"))
    (unwritten_prints (made_prints (group_prints short_prints (codes "shared") refl refl)
    (short true))) (made_prints short_prints (short false)) tt (search rules)) (search rules)
    (search rules)) ref_parts (λ r h. grind arith) (λ r h. grind arith) (λ v h. grind arith)

-- ---- value types

plain_fits : (t : ValTypeModel) → is_plain t ≡ true → is_printable (Keyword (plain_word t)) ≡ true
plain_fits (ref r) h = absurd cc
plain_fits _ h = refl

plain_reads : (t : ValTypeModel) → is_plain t ≡ true
    → word_in plain_words (Keyword (plain_word t)) ≡ Some t
plain_reads (ref r) h = absurd cc
plain_reads _ h = refl

abbrev plain_value : ValTypeModel → ValTypeModel
plain_value (ref r) = v128
plain_value t = t

plain_found : (t : ValTypeModel)
    → word_in plain_words (Keyword (plain_word t)) ≡ Some (plain_value t)
plain_found (ref r) = refl
plain_found _ = refl

-- no number or vector type is the word
pub no_plain : (w : List ℕ) → each (λ e. not (bytes_eq e.0 w)) plain_words ≡ true
    → (t : ValTypeModel)
    → not (bytes_eq (plain_word t) w) ≡ true
no_plain w a t =
    table_word (λ v. not (bytes_eq v w)) plain_words (plain_word t) (plain_value t) a
    (plain_found t)

begins_plain_word : (t : ValTypeModel) (y : List Token)
    → run (at_listed plain_words) (Keyword (plain_word t) ∷ y) ≡ true
begins_plain_word i32 y = refl
begins_plain_word _ y = refl

short_not_plain : (t : AbstractHeapType) (y : List Token)
    → not (run (at_listed plain_words) (Keyword (short_word t) ∷ y)) ≡ true
short_not_plain word.Func y = refl
short_not_plain _ y = refl

pub val_prints : Prints val_form val_type
unfolding val_type
val_prints =
    whole_prints (else_prints (at_listed plain_words)
    (one_prints (word_in plain_words) (refl, refl) (λ t. Keyword (plain_word t)) is_plain
    (OfNamed plain_word) (λ rest test f t y h k. f t y k) plain_fits plain_reads
    (word_given is_plain plain_words refl))
    (made_prints ref_prints ref) (λ t y k. begins_plain_word t y)
    (search (rules, short_not_plain))) val_parts (λ t h. grind arith) (λ t h. h)
    (λ v h. grind arith)

-- Laws: round trips of the `producers` section.
use Rattle.std.proofs.Common.{◌≡◌, ℕ, true, false, List, [], ◌∷◌, ◌++◌, codes, flat_map, map, Option, Some, None, is_some, refl, rules, arith, ap, subst, ◌∙◌, append_assoc, append-nil}
use Rattle.std.proofs.lemmas.Bool.{false≢true}
use Rattle.std.proofs.lemmas.List.Folds.{flat_map-map}
use Rattle.wat_print_instr.specs.Laws.Prelude.{bytes_decides, bytes_eq, and_parts, flat_map-append, Token, paren, made, more, no_items, by_test, at_more, Form, seq_form, many_form, paren_form, each, Prints, Inside, named_form, WellFormed, seq_prints, made_prints, many_prints, paren_prints, grouped_prints, text_prints, plain_prints, annotated, named_prints}
use Rattle.wat_tokens.specs.Tests.{look_up}
use Rattle.wat_links.specs.ProducerEntry.{field_words, Versioned, ProducerEntryModel, field_word, producer_entry}
use Rattle.wat_links.specs.Producers.{word_of, same_field, producer_entries, field_entries, with_entries, fields_of, producers}
use Rattle.wat_links.specs.Laws.Producers.{producer_entry_consumes}
use Rattle.wat_print_module.specs.Producers.{ProducersModel, versioned_form, produced_form, fields_behind, are_in_turn, all_fields_form, printable_producers, fields_form, producers_form}
use Rattle.wat_links.specs.Laws.Named.{field_is_named}

-- ---- the words of fields

-- the type of the values in a table of words
abbrev of_table : {A : Type 0} → List (List ℕ × A) → Type 0
of_table {A = A} table = A

-- the type of fields, which is private to its crate
abbrev ProducerField : Type 0
ProducerField = of_table field_words

abbrev held : {A : Type 0} → (o : Option A) → is_some o ≡ true → A
held (Some v) h = v
held None h = absurd (false≢true h)

abbrev language : ProducerField
language = held (look_up field_words (codes "language")) refl

abbrev sdk : ProducerField
sdk = held (look_up field_words (codes "sdk")) refl

abbrev processor : ProducerField
processor = held (look_up field_words (codes "processed-by")) refl

field_word_prints : Prints (named_form word_of) field_word
unfolding field_word
field_word_prints = named_prints field_words word_of (λ k. grind arith) field_is_named

-- ---- entries

abbrev entry_form : Form ProducerEntryModel
entry_form = paren_form (seq_form (named_form word_of) versioned_form)

entry_prints : Prints entry_form producer_entry
unfolding producer_entry
entry_prints =
    paren_prints (seq_prints field_word_prints (seq_prints text_prints text_prints (search rules))
    (search rules))

abbrev entries_form : Form (List ProducerEntryModel)
entries_form = many_form more entry_form

entries_prints : Prints entries_form producer_entries
unfolding producer_entries
entries_prints =
    many_prints at_more entry_prints producer_entry_consumes (search rules) (search rules)

abbrev entries_of : ProducerField → List Versioned → List ProducerEntryModel
entries_of k xs = map (λ x. (k, x)) xs

-- ---- fields as their entries

same_entries : (k : ProducerField) → same_field k k ≡ true
    → (xs : List Versioned) (es : List ProducerEntryModel)
    → field_entries k (entries_of k xs ++ es) ≡ xs ++ field_entries k es
same_entries k e [] es = refl
same_entries k e (x ∷ xs) es =
    rw e (ap (λ (l : List Versioned). x ∷ l) (same_entries k e xs es))

other_entries : (j k : ProducerField) → same_field j k ≡ false → (xs : List Versioned)
    (es : List ProducerEntryModel) → field_entries k (entries_of j xs ++ es) ≡ field_entries k es
other_entries j k e [] es = refl
other_entries j k e (x ∷ xs) es = rw e (other_entries j k e xs es)

-- entries of the three fields
abbrev three : List Versioned → List Versioned → List Versioned → List ProducerEntryModel
three xs ys zs = entries_of language xs ++ (entries_of sdk ys ++ (entries_of processor zs ++ []))

abbrev three_fields : List Versioned → List Versioned → List Versioned → List ProducersModel
three_fields xs ys zs =
    with_entries (codes "language") xs
    ++ (with_entries (codes "sdk") ys ++ (with_entries (codes "processed-by") zs ++ []))

three_are : (xs ys zs : List Versioned) → fields_of (three xs ys zs) ≡ three_fields xs ys zs
three_are xs ys zs =
    simp (
      same_entries language refl,
      same_entries sdk refl,
      same_entries processor refl,
      other_entries language sdk refl,
      other_entries language processor refl,
      other_entries sdk language refl,
      other_entries sdk processor refl,
      other_entries processor language refl,
      other_entries processor sdk refl,
      append_assoc,
    ) (simp append-nil)

plain_spelled : (k : ProducerField) (xs : List Versioned) (es : List ProducerEntryModel)
    → entries_form.spell (entries_of k xs ++ es)
    ≡ flat_map (produced_form (word_of k)).spell xs ++ entries_form.spell es
plain_spelled k xs es =
    flat_map-append entry_form.spell (entries_of k xs) es
    ∙ ap (λ (l : List Token). l ++ entries_form.spell es)
    (flat_map-map entry_form.spell (λ (x : Versioned). (k, x)) xs)

spelled_with : (k : ProducerField) (xs : List Versioned) (es : List ProducerEntryModel)
    (fs : List ProducersModel)
    → entries_form.spell es ≡ all_fields_form.spell fs
    → entries_form.spell (entries_of k xs ++ es)
    ≡ all_fields_form.spell (with_entries (word_of k) xs ++ fs)
spelled_with k [] es fs e = e
spelled_with k (x ∷ xs) es fs e =
    plain_spelled k (x ∷ xs) es
    ∙ ap (λ (l : List Token). flat_map (produced_form (word_of k)).spell (x ∷ xs) ++ l) e

ready_with : (k : ProducerField) (xs : List Versioned) (es : List ProducerEntryModel)
    → each versioned_form.printable xs ≡ true → entries_form.ready es ≡ true
    → entries_form.ready (entries_of k xs ++ es) ≡ true
ready_with k [] es h i = i
ready_with k (x ∷ xs) es h i =
    let a = and_parts (versioned_form.printable x) (each versioned_form.printable xs) h in
    rw (a.0) (ready_with k xs es a.1 i)

-- the entries of the first field if the field has the word, or no entries
first_field : (w : List ℕ) (fs : List ProducersModel) → all_fields_form.printable fs ≡ true
    → (xs : List Versioned) × (fs ≡ with_entries w xs ++ fields_behind w fs)
    × (each versioned_form.printable xs ≡ true)
    × (all_fields_form.printable (fields_behind w fs) ≡ true)
first_field w [] h = ([], refl, refl, refl)
first_field w ((v, []) ∷ fs) h = absurd cc
first_field w ((v, x ∷ xs) ∷ fs) h =
    let a = and_parts (each versioned_form.printable (x ∷ xs)) (all_fields_form.printable fs) h in
    by_test (bytes_eq v w)
    (λ e. (
      x ∷ xs,
      rw e (ap (λ (u : List ℕ). (u, x ∷ xs) ∷ fs) ((bytes_decides v w).0 e)),
      a.0,
      rw e (a.1),
    ))
    (λ e. ([], rw e refl, refl, rw e h))

no_fields : (fs : List ProducersModel) → no_items fs ≡ true → fs ≡ []
no_fields [] h = refl
no_fields (f ∷ fs) h = absurd cc

-- entries that are the fields
as_entries : (fs : List ProducersModel) → printable_producers fs ≡ true
    → (es : List ProducerEntryModel) × (entries_form.spell es ≡ fields_form.spell fs)
    × (entries_form.ready es ≡ true) × (fields_of es ≡ fs)
as_entries fs h =
    let a = and_parts (all_fields_form.printable fs) (are_in_turn fs) h in
    let gs = fields_behind (codes "language") fs in
    let hs = fields_behind (codes "sdk") gs in
    let x = first_field (codes "language") fs a.0 in
    let y = first_field (codes "sdk") gs x.3 in
    let z = first_field (codes "processed-by") hs y.3 in
    let none = no_fields (fields_behind (codes "processed-by") hs) a.1 in
    let are : three_fields x.0 y.0 z.0 ≡ fs = cc (x.1, y.1, z.1, none) in (
      three x.0 y.0 z.0,
      spelled_with language x.0 _ _ (spelled_with sdk y.0 _ _
          (spelled_with processor z.0 [] [] refl)) ∙ ap all_fields_form.spell are,
      ready_with language x.0 _ x.2 (ready_with sdk y.0 _ y.2
          (ready_with processor z.0 [] z.2 refl)),
      three_are x.0 y.0 z.0 ∙ are,
    )

-- ---- each value that a text spells can be written

field_printable : (k : ProducerField) (es : List ProducerEntryModel)
    → entries_form.printable es ≡ true
    → each versioned_form.printable (field_entries k es) ≡ true
field_printable k [] h = refl
field_printable k (e ∷ es) h =
    let a = and_parts (versioned_form.printable e.1) (entries_form.printable es) h in
    by_test (same_field e.0 k) (λ s. (rw (s, a.0) (field_printable k es a.1)))
    (λ s. (rw s (field_printable k es a.1)))

turn_printable : (xs ys zs : List Versioned) → each versioned_form.printable xs ≡ true
    → each versioned_form.printable ys ≡ true → each versioned_form.printable zs ≡ true
    → printable_producers ((with_entries (codes "language") xs ++ with_entries (codes "sdk") ys)
    ++ with_entries (codes "processed-by") zs) ≡ true
turn_printable xs ys zs a b c = grind arith

fields_printable : (es : List ProducerEntryModel) → entries_form.printable es ≡ true
    → printable_producers (fields_of es) ≡ true
fields_printable es h =
    turn_printable (field_entries language es) (field_entries sdk es) (field_entries processor es)
    (field_printable language es h) (field_printable sdk es h) (field_printable processor es h)

-- ---- the section

fields_prints : Prints fields_form (made fields_of producer_entries)
fields_prints =
    let q = made_prints entries_prints fields_of in
    plain_prints all_fields_form.spell
    (λ fs h. (let x = as_entries fs h in
    subst (λ (c : List Token). WellFormed c) x.1 (q.nests x.0 x.2)))
    (λ fs r h e. (let x = as_entries fs h in
    subst (λ (gs : List ProducersModel). (made fields_of producer_entries).spells gs
    (fields_form.spell fs) r) x.3
    (subst (λ (c : List Token). (made fields_of producer_entries).spells (fields_of x.0) c r) x.1
    (q.here x.0 r x.2 e))))
    (record {
      holds = λ fs c r a s. (let x = q.only fs c r a s in
          subst (λ (gs : List ProducersModel). printable_producers gs ≡ true) x.1
          (fields_printable x.0 x.2));
    })

pub producers_inside : Inside producers_form (λ v. v) producers
unfolding producers
producers_inside =
    annotated fields_prints refl (codes "producers") refl refl refl

pub producers_prints : Prints (paren_form producers_form) (paren producers)
producers_prints = grouped_prints producers_inside

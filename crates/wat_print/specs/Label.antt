-- How labels are written, and lists of parts with optional labels: parameters and fields.
use Rattle.std.specs.Prelude.{◌≡◌, ℕ, Bool, true, false, Option, not, ◌&&◌, if◌then◌else◌, List, [], ◌∷◌, codes, map, ◌⊎◌, flat_map, ◌||◌}
use Rattle.std.proofs.Common.{inl, inr}
use Rattle.wat_types.specs.Prelude.{Token, Id, Label, labelled, begins_label, begins_name, begins_id, more}
use Rattle.wat_print.specs.Annotation.{annotation_form}
use Rattle.wat_print.specs.Form.{else_form, only_where_form, many_form, by_where, Test, Form, token_form, option_form, seq_form, by, paren_form}
use Rattle.wat_print.specs.Parts.{each}
use Rattle.wat_print.specs.Strings.{text_form}
use Rattle.wat_print.specs.WellFormed.{is_name}

abbrev pub OfIds : Test → Test → Type 0
OfIds rest test = (n : List ℕ) (y : List Token) → rest y ≡ true → test (Id n ∷ y) ≡ true

abbrev pub id_form : Form (List ℕ)
id_form = token_form (λ n. Id n) is_name OfIds

-- ( @name name )
abbrev pub name_form : Form (List ℕ)
name_form = paren_form (annotation_form (codes "name") text_form)

abbrev pub label_parts : Label → Option (List ℕ) × Option (List ℕ)
label_parts l = (l.id, l.name)

-- id? name?
abbrev pub label_form : Form Label
label_form =
    by label_parts (seq_form (option_form begins_id id_form) (option_form begins_name name_form))

-- no part has a label
abbrev pub none_labelled : {A : Type 0} → (A → Label) → List A → Bool
none_labelled label [] = true
none_labelled label (v ∷ vs) = not (labelled (label v)) && none_labelled label vs

abbrev pub by_itself : {A : Type 0} → A → List A
by_itself v = v ∷ []

-- one group if no part has a label, otherwise one group for each part
abbrev pub in_groups : {A : Type 0} → (A → Label) → List A → List (List A)
in_groups label [] = []
in_groups label (v ∷ vs) =
    if none_labelled label (v ∷ vs) then (v ∷ vs) ∷ [] else map by_itself (v ∷ vs)

-- one part with a label, or parts without labels
module _ {T P : Type 0} (value : Form T) (label_in : P → Label) (value_in : P → T) where
  abbrev pub part_form : Form P
  part_form = by (λ x. (label_in x, value_in x)) (seq_form label_form value)

  abbrev pub tree_form : Form (Label × T ⊎ List T)
  tree_form =
      else_form begins_label
      (only_where_form (λ v. labelled v.0) (seq_form label_form value)) (many_form more value)

  abbrev pub one_side : Bool → P → Label × T ⊎ List T
  one_side true x = inl (label_in x, value_in x)
  one_side false x = inr (value_in x ∷ [])

  abbrev pub listed_parts : List P → Label × T ⊎ List T
  listed_parts [] = inr []
  listed_parts (x ∷ []) = one_side (labelled (label_in x)) x
  listed_parts (x ∷ y ∷ xs) = inr (map value_in (x ∷ y ∷ xs))

  abbrev pub at_most_one : List P → Bool
  at_most_one [] = true
  at_most_one (x ∷ []) = true
  at_most_one (x ∷ y ∷ xs) = false

  abbrev pub may_share : List P → Bool
  may_share xs = (at_most_one xs || none_labelled label_in xs) && each part_form.printable xs

  -- the parts that one group may have
  abbrev pub listed_form : Form (List P)
  listed_form = record (by_where may_share listed_parts tree_form) {
    spell = flat_map part_form.spell;
  }

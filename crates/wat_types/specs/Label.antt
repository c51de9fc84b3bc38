-- Labels: an identifier, and a name from a name annotation.
use Rattle.std.specs.Prelude.{ℕ, Bool, ◌||◌, List, Option, None, is_some}
use Rattle.wat_tokens.specs.Prelude.{Token, Production, seq, made, opt, name_of, identifier, name_annotation, option_view, Test, run, either_test, at_id, at_name}
use Rattle.wat_tokens.specs.declared.index.Id.{Id}
use Rattle.wat_tokens.specs.declared.name_annotation.NameAnnotation.{NameAnnotation}

pub record Label : Type 0 where
  pub id : Option (List ℕ)
  pub name : Option (List ℕ)

abbrev pub label_of : Option (List ℕ) → Option (List ℕ) → Label
label_of i n = record { id = i; name = n }

abbrev pub no_label : Label
no_label = label_of None None

abbrev pub label_view : Option Id → Option NameAnnotation → Label
label_view i n = label_of (option_view name_of i) (option_view (λ a. a.name.now) n)

-- has an id or a name
abbrev pub labelled : Label → Bool
labelled l = is_some l.id || is_some l.name

-- id? name?
unfoldable pub label : Production Label
label = made (λ v. label_of v.0 v.1)
    (seq (opt at_id identifier) (opt at_name name_annotation))

-- an id, or a name
abbrev pub at_label : Test
at_label = either_test at_id at_name

abbrev pub begins_label : List Token → Bool
begins_label t = run at_label t

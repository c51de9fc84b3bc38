-- If the next tokens begin no value type, no value type is read.
use Rattle.std.specs.Prelude.{◌≡◌, ℕ, false, List, [], ◌∷◌, Option, Some, None, refl, ◌||◌, codes, is_some}
use Rattle.wat_types.specs.Prelude.{or_parts, Token, Keyword, word_in, look_up, begins_group, one_reads, with_rest, run, at_listed, at_shorthand, ref_type, shorthand, shorthand_words, plain_words, val_type}
use Rattle.wat_types.specs.Reference.{begins_shorthand, begins_long_ref}
use Rattle.wat_types.specs.Value.{at_plain, begins_plain, begins_val}

none_known : {A : Type 0} (o : Option A) (r : List Token) → is_some o ≡ false → with_rest o r ≡ None
none_known (Some v) r e = absurd cc
none_known None r e = refl

no_word : {A : Type 0} (table : List (List ℕ × A)) (t : List Token) → run (at_listed table) t ≡ false → one_reads (word_in table) t ≡ None
no_word table [] e = refl
no_word table (Keyword w ∷ t) e = none_known (look_up table w) t e
no_word table (_ ∷ t) e = refl

no_shorthand : (t : List Token) → begins_shorthand t ≡ false → shorthand.reads t ≡ None
unfolding shorthand at_shorthand
no_shorthand t e = rw (no_word shorthand_words t e) refl

no_reference : (t : List Token) → begins_shorthand t ≡ false → begins_long_ref t ≡ false → ref_type.reads t ≡ None
unfolding ref_type
no_reference t e f = rw ((or_parts (begins_group (codes "ref") t) (begins_group (codes "shared") t) f).0, (or_parts (begins_group (codes "ref") t) (begins_group (codes "shared") t) f).1, no_shorthand t e) refl

pub no_value_type : (t : List Token) → begins_val t ≡ false → val_type.reads t ≡ None
unfolding val_type at_plain
no_value_type t e =
    let long = (or_parts (begins_plain t) (begins_shorthand t || begins_long_ref t) e).1 in
    let known : run (at_listed plain_words) t ≡ false = (or_parts (begins_plain t) (begins_shorthand t || begins_long_ref t) e).0 in
    rw (known, no_reference t (or_parts (begins_shorthand t) (begins_long_ref t) long).0 (or_parts (begins_shorthand t) (begins_long_ref t) long).1) refl

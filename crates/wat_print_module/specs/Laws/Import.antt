-- Laws: imports are read again.
use Rattle.std.proofs.Common.{◌≡◌, true, List, [], ◌∷◌, ◌++◌, codes, is_none, ℕ, false, refl, rules, arith}
use Rattle.wat_core.specs.Prelude.{import_items, imports, ItemSigModel}
use Rattle.wat_print_module.specs.Prelude.{bytes_eq, and_parts, Token, seq, text, ends, at_lparen, item_sig, Prints, seq_prints, made_prints, whole_prints, many_prints, paren_prints, after_prints, group_prints, prints_only, told_prints, else_prints, only_where_prints, printable_sig, sig_prints, text_prints}
use Rattle.wat_tokens.specs.Parts.{made_where}
use Rattle.wat_print.specs.Laws.Form.{restated_prints, where_prints}
use Rattle.wat_links.specs.Import.{single, group1, group2, imports_of, shared_sig, typed_list, named_list, import_choice, typed_items, named_items, single_item, typed, at_item, at_typed}
use Rattle.wat_links.specs.ImportItem.{sig_group, typed_item, named_item}
use Rattle.wat_links.specs.ItemForms.{ItemsSpells}
use Rattle.wat_links.specs.Laws.Forms.{items_to, items_from}
use Rattle.wat_links.specs.Laws.Import.{typed_item_consumes, named_item_consumes}
use Rattle.wat_print_module.specs.Import.{single_form, typed_items_form, shared_form, sharing_form, items_form, imports_parts, imports_form, items_parts}
use Rattle.wat_print_module.specs.Laws.FieldHead.{name_group_prints}
use Rattle.wat_print_module.specs.Laws.Fronts.{OnGroup}

-- ---- items

single_prints : Prints single_form (seq text sig_group)
single_prints = seq_prints text_prints (paren_prints sig_prints) (search rules)

typed_prints : Prints typed_items_form typed_list
unfolding typed_list typed_item
typed_prints =
    many_prints at_item (group_prints single_prints (codes "item") refl refl)
    typed_item_consumes (search rules) (search rules)

shared_prints : Prints shared_form (made_where (λ s. is_none s.label.id) (λ s. s) item_sig)
shared_prints =
    let ok = λ (s : ItemSigModel). is_none s.label.id in
    let p = where_prints (only_where_prints sig_prints ok) ok (λ s. s)
    (λ s h. (and_parts (ok s) (printable_sig s) h).0) in
    record {
      nests = p.nests;
      front = p.front;
      here = p.here;
      only = λ s c r a q. (s, refl, rw (← q.3, q.2) ((prints_only sig_prints).holds q.0 c r a q.1));
    }

sharing_prints : Prints sharing_form (seq named_list shared_sig)
unfolding named_list named_item shared_sig
sharing_prints =
    seq_prints (many_prints at_item (name_group_prints (codes "item") refl refl)
    named_item_consumes (λ n y. refl) (λ n y. refl)) (paren_prints shared_prints) (search rules)

-- ---- the three forms of imports

-- no signature begins with `item`
no_item : (k : List ℕ) → bytes_eq k (codes "item") ≡ false → OnGroup typed k
no_item k e y = rw e refl

typed_begin : (xs : List (List ℕ × ItemSigModel)) (r : List Token)
    → typed_items_form.ready xs ≡ true
    → ends r ≡ true → typed (typed_items_form.spell xs ++ r) ≡ true
typed_begin [] r h e = rw e refl
typed_begin (x ∷ xs) r h e = refl

items_prints : Prints items_form import_items
unfolding import_items import_choice typed_items named_items single_item
items_prints =
    restated_prints (whole_prints (told_prints ends at_typed (made_prints typed_prints group1)
    (else_prints at_lparen (made_prints sharing_prints (λ v. group2 v.1 v.0))
    (made_prints single_prints (λ v. single v.0 v.1)) (λ n y. refl, search rules) (search rules))
    typed_begin ((λ n y. refl, search (rules, no_item)), search rules)) items_parts
    (λ v h. grind arith) (λ v h. h) (λ v h. grind arith)) ItemsSpells items_to items_from

pub imports_prints : Prints imports_form imports
unfolding imports
imports_prints =
    whole_prints (after_prints (made_prints (seq_prints text_prints items_prints (search rules))
    (λ v. imports_of v.0 v.1)) (codes "import") refl refl) imports_parts (λ i h. refl) (λ i h. h)
    (λ v h. h)

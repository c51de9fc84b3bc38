-- Laws: locals of functions are read again.
use Rattle.std.proofs.Common.{◌≡◌, true, List, [], ◌∷◌, flat_map, map, codes, refl, rules, ap, append-nil}
use Rattle.wat_print_instr.specs.Laws.Prelude.{val_type_consumes, listed_form, val_form, val_prints}
use Rattle.wat_print_module.specs.Prelude.{and_parts, all_of, LocalModel, locals, paren_form, by_itself, each, Prints, made_prints, whole_where, respelled, many_prints, paren_prints, after_prints, local_label, listed_local_form, local_form, locals_form}
use Rattle.wat_print.specs.Label.{in_groups}
use Rattle.wat_fields.specs.Local.{local_of, labelled_local, plain_locals, listed_locals, local_parser, at_local}
use Rattle.wat_print_module.specs.Local.{local_type, local_parser_form}
use Rattle.wat_fields.specs.Laws.Local.{local_group_consumes}
use Rattle.wat_print.specs.Laws.Label.{listed}

-- locals in one group, and groups of locals
locals_listed : Prints (listed_form val_form local_label local_type) listed_locals
    × ((ls : List LocalModel) → each listed_local_form.printable ls ≡ true
    → each local_parser_form.ready (in_groups local_label ls) ≡ true)
    × ((gs : List (List LocalModel)) → each local_parser_form.printable gs ≡ true
    → each listed_local_form.printable (all_of gs) ≡ true)
unfolding listed_locals labelled_local plain_locals
locals_listed =
    listed val_prints (λ t h. h) val_type_consumes (search rules) (search rules) (search rules)
    (search rules) local_of local_label local_type (λ l. refl) (λ l t. refl) (λ l t. refl)

pub local_parser_prints : Prints local_parser_form local_parser
unfolding local_parser
local_parser_prints = after_prints locals_listed.0 (codes "local") refl refl

-- ---- each local in a separate group

alone : (ls : List LocalModel) → (all_of (map by_itself ls) ≡ ls)
    × (flat_map (paren_form local_parser_form).spell (map by_itself ls)
    ≡ flat_map local_form.spell ls)
alone [] = (refl, refl)
alone (l ∷ ls) =
    let a = alone ls in (
      ap (λ (ks : List LocalModel). l ∷ ks) a.0,
      rw (append-nil (listed_local_form.spell l), a.1) refl,
    )

alone_ready : (ls : List LocalModel) → each listed_local_form.printable ls ≡ true
    → each local_parser_form.ready (map by_itself ls) ≡ true
alone_ready [] h = refl
alone_ready (l ∷ ls) h =
    let a = and_parts (listed_local_form.printable l) (each listed_local_form.printable ls) h in
    rw (a.0) (alone_ready ls a.1)

pub locals_prints : Prints locals_form locals
unfolding locals
locals_prints =
    respelled (whole_where (made_prints (many_prints at_local
    (paren_prints local_parser_prints) local_group_consumes (search rules) (search rules))
    (λ gs. all_of gs)) (map by_itself) (each listed_local_form.printable) (λ ls h. (alone ls).0)
    alone_ready locals_listed.2) (flat_map local_form.spell) (λ ls h. (alone ls).1)

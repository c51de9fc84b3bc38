-- Laws: type uses are read again.
use Rattle.std.proofs.Common.{rules, ◌≡◌, true, false, ◌&&◌, List, [], ◌∷◌, ◌++◌, flat_map, codes, refl}
use Rattle.wat_types.specs.Prelude.{group_follows, function_to, function_from, use_of, type_follows, type_use}
use Rattle.wat_print.specs.Prelude.{Token, Production, second_word, function_groups, function_type, function_type_no_names, FunctionSpells, Group, param, result, FunctionTypeModel, begins_func, at_func, TypeUseModel, Test, any, Form, func_group_form, groups_of, printable_function, each, if_some, Prints, Must, use_form, unnamed_use_form}
use Rattle.wat_print.specs.Use.{type_index_form, or_empty, inline_groups, inline_form, use_parts, use_form_of}
use Rattle.wat_print.specs.Laws.Form.{group_prints, option_prints, seq_prints, made_prints, whole_prints, whole_where, restated_prints}
use Rattle.wat_print.specs.Laws.Function.{AreGroupsOf, groups_are, groups_prints, groups_whole, groups_covers, groups_are_ready, all_ready, unnamed_by}
use Rattle.wat_print.specs.Laws.Reference.{index_prints}

-- a rest whose first tokens don't continue a type use
abbrev pub EndsUse : List Token → Type 0
EndsUse r = (type_follows r ≡ false) × (begins_func r ≡ false) × (group_follows r ≡ false)

-- ---- inline types

inline_front : (test : Test) → func_group_form.Fronts any test → (gs : List Group) (r : List Token)
    → test (flat_map func_group_form.spell (or_empty gs) ++ r) ≡ true
inline_front test f [] r = f.0 _ refl
inline_front test f (param ps ∷ gs) r = f.0 _ refl
inline_front test f (result ts ∷ gs) r = f.1 _ refl

empty_groups : (f : FunctionTypeModel) (gs : List Group) → AreGroupsOf f gs
    → AreGroupsOf f (or_empty gs)
empty_groups f [] a = a
empty_groups f (g ∷ gs) a = a

empty_ready : (gs : List Group) → each func_group_form.ready gs ≡ true
    → each func_group_form.ready (or_empty gs) ≡ true
empty_ready [] h = refl
empty_ready (g ∷ gs) h = h

inline_are : (f : FunctionTypeModel) → AreGroupsOf f (inline_groups f)
inline_are f = empty_groups f (groups_of f) (groups_are f)

inline_prints : Prints inline_form function_type
unfolding function_groups
inline_prints =
    let p = whole_where (restated_prints groups_prints (FunctionSpells true) (function_to true)
    (function_from true)) inline_groups printable_function
    (λ f h. groups_whole f (inline_groups f) (inline_are f))
    (λ f h. groups_are_ready f (inline_groups f) (inline_are f)
    (empty_ready (groups_of f) (all_ready f h))) groups_covers in
    record {
      nests = p.nests;
      front = λ rest test i f r h k e. inline_front test i (groups_of f) r;
      here = p.here;
      only = p.only;
    }

-- ---- uses

module _ {inline : Form FunctionTypeModel} {g : Production FunctionTypeModel} (p : Prints inline g)
    (sure : (u : TypeUseModel FunctionTypeModel) → (use_form_of inline).printable u ≡ true
    → type_index_form.ready u.index && if_some inline.ready u.inline ≡ true)
    (begins : Must inline.empty (inline.Fronts any begins_func))
    (behind : inline.Fronts any type_index_form.follows)
  where
    pub use_prints_of : Prints (use_form_of inline) (type_use at_func g)
    unfolding type_use
    use_prints_of =
        whole_prints (made_prints (seq_prints (option_prints (second_word (codes "type"))
        (group_prints index_prints (codes "type") refl refl) (search rules))
        (option_prints at_func p begins) behind) (λ v. use_of v.0 v.1)) use_parts (λ u h. refl)
        sure (λ v h. h)

pub use_prints : Prints use_form (type_use at_func function_type)
use_prints =
    use_prints_of inline_prints (λ u h. h) (search rules) (search rules)

pub unnamed_use_prints : Prints unnamed_use_form (type_use at_func function_type_no_names)
unnamed_use_prints =
    use_prints_of (unnamed_by inline_form inline_prints (λ f. refl)) (λ u h. h)
    (search rules) (search rules)

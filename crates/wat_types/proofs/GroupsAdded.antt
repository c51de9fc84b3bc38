-- Groups of a function type, added one by one.
use Rattle.std.proofs.Common.{◌≡◌, true, if◌then◌else◌, List, [], ◌∷◌, ◌++◌, Some, None, flat_map, refl, ap, sym, ◌∙◌, append_assoc}
use Rattle.wat_types.specs.Prelude.{append-nil, Read, bind, some_of, add_all, add_rest, by_test, ValTypeModel, ParamModel, Group, param, result, params_in, results_in, function_of, empty_function, merged, only_results, add, in_order}
use Rattle.wat_tokens.specs.Production.{option_of}

add_results : (gs : List Group) (ps : List ParamModel) (rs : List ValTypeModel) (r : ValTypeModel)
    → add_all add gs (function_of ps (r ∷ rs)) ≡ (if only_results gs then option_of (function_of ps ((r ∷ rs) ++ flat_map results_in gs)) else None)
add_results [] ps rs r = ap (λ (u : List ValTypeModel). option_of (function_of ps u)) (sym (append-nil (r ∷ rs)))
add_results (param qs ∷ gs) ps rs r = refl
add_results (result qs ∷ gs) ps rs r = add_results gs ps (rs ++ qs) r ∙ ap (λ (u : List ValTypeModel). if only_results gs then option_of (function_of ps (r ∷ u)) else None) (append_assoc rs qs (flat_map results_in gs))

no_params : (gs : List Group) → only_results gs ≡ true → flat_map params_in gs ≡ []
no_params [] e = refl
no_params (param ps ∷ gs) e = absurd cc
no_params (result rs ∷ gs) e = no_params gs e

add_params : (gs : List Group) (ps : List ParamModel) → add_all add gs (function_of ps []) ≡ (if in_order gs then option_of (function_of (ps ++ flat_map params_in gs) (flat_map results_in gs)) else None)
add_params [] ps = ap (λ (u : List ParamModel). option_of (function_of u [])) (sym (append-nil ps))
add_params (param qs ∷ gs) ps = add_params gs (ps ++ qs) ∙ ap (λ (u : List ParamModel). if in_order gs then option_of (function_of u (flat_map results_in gs)) else None) (append_assoc ps qs (flat_map params_in gs))
add_params (result [] ∷ gs) ps = add_params gs ps
add_params (result (r ∷ rs) ∷ gs) ps = add_results gs ps rs r ∙ by_test (only_results gs)
    (λ k. rw (k, no_params gs k) (ap (λ (u : List ParamModel). option_of (function_of u ((r ∷ rs) ++ flat_map results_in gs))) (sym (append-nil ps))))
    (λ k. rw k refl)

pub add_groups : (x : Read (List Group)) → add_rest add empty_function x ≡ bind x (λ gs r. if in_order gs then some_of (merged gs, r) else None)
add_groups (Some x) = rw (add_params x.0 []) (by_test (in_order x.0) (λ k. rw k refl) (λ k. rw k refl))
add_groups None = refl

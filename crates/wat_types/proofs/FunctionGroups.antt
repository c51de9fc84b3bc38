-- If a function type isn't empty after one more group, it isn't empty after all groups.
use Rattle.std.proofs.Common.{◌≡◌, Bool, true, false, List, [], ◌∷◌, ◌++◌, Some, None, refl, sym, ◌&&◌}
use Rattle.wat_types.specs.Prelude.{append-nil, Token, Read, by_test, by_read, add_all, add_rest, adding_goes_on, adding_fails, NotHeapless, with_rest, no_items, ValTypeModel, ParamModel, Group, param, result, FunctionTypeModel, function_of, func_group, group_follows, func_group_consumes, add, heapless_function, func_groups}
use Rattle.wat_tokens.specs.Adding.{add_read}

filled : {A B : Type 0} (xs ys : List A) (zs ws : List B) → (no_items xs && no_items zs) ≡ false → (no_items (xs ++ ys) && no_items (zs ++ ws)) ≡ false
filled [] ys [] ws e = absurd cc
filled [] [] (z ∷ zs) ws e = refl
filled [] (y ∷ ys) (z ∷ zs) ws e = refl
filled (x ∷ xs) ys zs ws e = refl

more_params : (f : FunctionTypeModel) (ps : List ParamModel) → heapless_function f ≡ false → heapless_function (function_of (f.params ++ ps) f.results) ≡ false
more_params f ps e = rw (sym (append-nil f.results)) (filled f.params ps f.results [] e)

more_results : (f : FunctionTypeModel) (rs : List ValTypeModel) → heapless_function f ≡ false → heapless_function (function_of f.params (f.results ++ rs)) ≡ false
more_results f rs e = rw (sym (append-nil f.params)) (filled f.params [] f.results rs e)

stays_filled : (gs : List Group) (f : FunctionTypeModel) (r : List Token) → heapless_function f ≡ false → NotHeapless heapless_function (with_rest (add_all add gs f) r)
stays_filled [] f r e = e
stays_filled (param ps ∷ gs) f r e = by_test (no_items f.results)
    (λ k. rw k (stays_filled gs (function_of (f.params ++ ps) f.results) r (more_params f ps e)))
    (λ k. rw k tt)
stays_filled (result rs ∷ gs) f r e = stays_filled gs (function_of f.params (f.results ++ rs)) r (more_results f rs e)

rest_filled : (f : FunctionTypeModel) (x : Read (List Group)) → heapless_function f ≡ false → NotHeapless heapless_function (add_rest add f x)
rest_filled f (Some x) e = stays_filled x.0 f x.1 e
rest_filled f None e = tt

pub groups_not_heapless : (labels : Bool) (f : FunctionTypeModel) (t : List Token) (total : Read FunctionTypeModel) → group_follows t ≡ true → NotHeapless heapless_function (add_read add f ((func_group labels).reads t))
    → add_rest add f ((func_groups labels).reads t) ≡ total → NotHeapless heapless_function total
unfolding func_groups
groups_not_heapless labels f t total k h e = rw (← e) (by_read (add_read add f ((func_group labels).reads t))
    (λ y m. rw (adding_goes_on add group_follows (func_group labels) (func_group_consumes labels) f t y.0 y.1 k m) (rest_filled y.0 ((func_groups labels).reads y.1) (rw m at h)))
    (λ m. rw (adding_fails add group_follows (func_group labels) (func_group_consumes labels) f t k m) tt))

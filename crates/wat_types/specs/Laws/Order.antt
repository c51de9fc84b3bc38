-- Laws: a test of the order of groups.
use Rattle.std.proofs.Common.{◌≡◌, zero, suc, true, List, [], ◌∷◌, All, refl, ap, sym, ◌∙◌, arith}
use Rattle.std.proofs.lemmas.List.Kept.{AllPairs-cons}
use Rattle.wat_types.specs.Value.{ValTypeModel}
use Rattle.wat_types.specs.Group.{ParamModel, Group, param, result, FunctionTypeModel, function_of, MayStandBefore, InOrder}
use Rattle.wat_types.specs.Order.{only_results, in_order}

pub by_parts : (f : FunctionTypeModel) (ps : List ParamModel) (rs : List ValTypeModel)
    → f.params ≡ ps → f.results ≡ rs
    → function_of ps rs ≡ f
by_parts f ps rs p q =
    ap (λ (u : List ParamModel). function_of u rs) (sym p)
    ∙ ap (λ (u : List ValTypeModel). function_of f.params u) (sym q)

-- ---- the test decides the order

only_results-in_order : (gs : List Group) → only_results gs ≡ true → in_order gs ≡ true
only_results-in_order [] e = refl
only_results-in_order (param ps ∷ gs) e = absurd cc
only_results-in_order (result [] ∷ gs) e = only_results-in_order gs e
only_results-in_order (result (t ∷ ts) ∷ gs) e = e

before_results : (t : ValTypeModel) (ts : List ValTypeModel) (gs : List Group)
    → only_results gs ≡ true
    → All (MayStandBefore (result (t ∷ ts))) gs
before_results t ts [] e k d lt = absurd (omega arith)
before_results t ts (param ps ∷ gs) e k d lt = absurd cc
before_results t ts (result rs ∷ gs) e zero d lt = tt
before_results t ts (result rs ∷ gs) e (suc k) d lt = before_results t ts gs e k d (omega arith)

before_any : (ps : List ParamModel) (gs : List Group) → All (MayStandBefore (param ps)) gs
before_any ps gs k d lt = tt

empty_before_any : (gs : List Group) → All (MayStandBefore (result [])) gs
empty_before_any gs k d lt = tt

none_in_order : InOrder []
none_in_order i j d lt within = absurd (omega arith)

pub in_order-holds : (gs : List Group) → in_order gs ≡ true → InOrder gs
in_order-holds [] e = none_in_order
in_order-holds (param ps ∷ gs) e =
    AllPairs-cons MayStandBefore (param ps) gs (before_any ps gs) (in_order-holds gs e)
in_order-holds (result [] ∷ gs) e =
    AllPairs-cons MayStandBefore (result []) gs (empty_before_any gs) (in_order-holds gs e)
in_order-holds (result (t ∷ ts) ∷ gs) e =
    AllPairs-cons MayStandBefore (result (t ∷ ts)) gs (before_results t ts gs e)
    (in_order-holds gs (only_results-in_order gs e))

rest_in_order : (g : Group) (gs : List Group) → InOrder (g ∷ gs) → InOrder gs
rest_in_order g gs h i j d lt within = h (suc i) (suc j) d (omega arith) (omega arith)

results_behind : (t : ValTypeModel) (ts : List ValTypeModel) (gs : List Group)
    → All (MayStandBefore (result (t ∷ ts))) gs → only_results gs ≡ true
results_behind t ts [] h = refl
results_behind t ts (param ps ∷ gs) h = absurd (h zero (param ps) (omega arith))
results_behind t ts (result rs ∷ gs) h =
    results_behind t ts gs (λ k d lt. h (suc k) d (omega arith))

pub InOrder-tested : (gs : List Group) → InOrder gs → in_order gs ≡ true
InOrder-tested [] h = refl
InOrder-tested (param ps ∷ gs) h = InOrder-tested gs (rest_in_order (param ps) gs h)
InOrder-tested (result [] ∷ gs) h = InOrder-tested gs (rest_in_order (result []) gs h)
InOrder-tested (result (t ∷ ts) ∷ gs) h =
    results_behind t ts gs (λ k d lt. h zero (suc k) d (omega arith) (omega arith))

-- The types of a select.
use Rattle.std.specs.Prelude.{◌≡◌, Bool, List, codes, Option, Vec, map}
use Rattle.wat_types.specs.Prelude.{Global, Token, second_word, Test, run, Production, opt, joined, no_items, option_view, heapless_option, ValTypeModel, val_view}
use Rattle.wat_types.specs.Use.{SameOption}
use Rattle.wat_types.specs.declared.value.ValType.{ValType}
use Rattle.wat_operands.specs.declared.select.SelectTypes.{SelectTypes}
use Rattle.wat_operands.specs.ResultGroup.{result_group}
use Rattle.wat_operands.specs.Laws.Select.{result_group_consumes}

-- ---- views

abbrev pub select_types_view : Option (Vec ValType Global) → Option (List ValTypeModel)
select_types_view ts = option_view (λ v. map val_view v.items) ts

abbrev pub select_view : SelectTypes → Option (List ValTypeModel)
select_view s = select_types_view s.tys

-- has no type, with or without a group
abbrev pub heapless_select : Option (List ValTypeModel) → Bool
heapless_select ts = heapless_option no_items ts

-- both are present with the same types, or both are absent
abbrev pub SameTypes : Option (Vec ValType Global) → Option (Vec ValType Global) → Type 0
SameTypes a b = SameOption (λ v w. v.items ≡ w.items) a b

-- ---- the grammar

-- one more group has to follow: the second token is `result`, for any first token
abbrev pub at_result : Test
at_result = second_word (codes "result")

abbrev pub result_follows : List Token → Bool
result_follows t = run at_result t

-- None if no group has to follow; else groups as long as one more has to follow: the types of all
-- groups, in order
unfoldable pub select_types : Production (Option (List ValTypeModel))
select_types =
    opt at_result (joined at_result result_group result_group_consumes)

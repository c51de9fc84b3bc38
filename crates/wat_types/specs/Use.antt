-- Type uses: an index, an inline type, both or neither.
use Rattle.std.specs.Prelude.{◌≡◌, Bool, List, codes, Option, Some, None, option_map, ⊤}
use Rattle.wat_tokens.specs.Prelude.{Token, begins_word, second, Production, seq, made, opt, group, IndexModel, index_view, index, option_view, heapless_option, Test, second_word}
use Rattle.wat_types.specs.declared.function.FunctionType.{FunctionType}
use Rattle.wat_types.specs.declared.function.FunctionTypeNoNames.{FunctionTypeNoNames}
use Rattle.wat_types.specs.declared.type_use.TypeUse.{TypeUse}

-- a type use, without the position of the index
pub record TypeUseModel (A : Type 0) : Type 0 where
  pub index : Option IndexModel
  pub inline : Option A

abbrev pub use_of : {A : Type 0} → Option IndexModel → Option A → TypeUseModel A
use_of i t = record { index = i; inline = t }

-- a type use with the given view of its inline type
abbrev pub use_view : {T A : Type 0} → (T → A) → TypeUse T → TypeUseModel A
use_view view u = use_of (option_view index_view u.index) (option_view view u.inline)

-- has no inline type, or a heapless inline type
abbrev pub heapless_use : {A : Type 0} → (A → Bool) → TypeUseModel A → Bool
heapless_use heapless u = heapless_option heapless u.inline

-- ---- the grammar

-- the second token is `type`, for any first token
abbrev pub type_follows : List Token → Bool
type_follows t = second (begins_word (codes "type")) t

-- ( type idx )
abbrev pub type_index : Production IndexModel
type_index = group (codes "type") index

-- ( type idx )?, present if the second token is `type`; then T?, present if a T begins
unfoldable pub type_use : {A : Type 0} → Test → Production A → Production (TypeUseModel A)
type_use test t =
    made (λ v. use_of v.0 v.1) (seq (opt (second_word (codes "type")) type_index) (opt test t))

-- ---- other uses of the same type

-- the same index, and the function type in the inline type
abbrev pub with_names : TypeUse FunctionTypeNoNames → TypeUse FunctionType
with_names u = record { index = u.index; inline = option_map (λ t. t.0) u.inline }

-- the same parameters and the same results
abbrev pub SameFunction : FunctionType → FunctionType → Type 0
SameFunction f g = (f.params.items ≡ g.params.items) × (f.results.items ≡ g.results.items)

abbrev pub SameUnnamed : FunctionTypeNoNames → FunctionTypeNoNames → Type 0
SameUnnamed f g = SameFunction f.0 g.0

-- both are present and the same, or both are absent
abbrev pub SameOption : {T : Type 0} → (T → T → Type 0) → Option T → Option T → Type 0
SameOption Same (Some x) (Some y) = Same x y
SameOption Same None None = ⊤
SameOption Same _ _ = ⊥

-- the same index, and the same inline type
abbrev pub SameUse : {T : Type 0} → (T → T → Type 0) → TypeUse T → TypeUse T → Type 0
SameUse Same u v = (u.index ≡ v.index) × SameOption Same u.inline v.inline

-- Types whose values are fields of a module.
use Rattle.std.specs.Prelude.{◌≡◌, List, refl}
use Rattle.wat_fields.specs.Prelude.{made, Production, Token, ViewOf}
use Rattle.wat_core.specs.Field.{ModuleFieldModel, heapless_field}

-- A field of this kind is spelled as a value of X is. `seen` is the view of a value as a field.
-- make: makes a field's view from the view of a value
-- reads: `form` reads what `g` reads, made into a field's view
-- sees: `seen` is `make` of the value's view
-- heapless: the field is heapless if and only if the value is heapless
pub record IsFieldOf {X V : Type 0} (form : Production ModuleFieldModel) (seen : X
    → ModuleFieldModel)
    (view : ViewOf X V) (g : Production V) : Type 0 where
  pub make : V → ModuleFieldModel
  pub reads : (t : List Token) → form.reads t ≡ (made make g).reads t
  pub sees : (x : X) → seen x ≡ make (view.of x)
  pub heapless : (v : V) → heapless_field (make v) ≡ view.heapless v

-- a field that is made by `make`, of the value that is read and of its view, is such a field
pub made_by : {X V : Type 0} (make : V → ModuleFieldModel) {view : ViewOf X V} {g : Production V}
    → ((v : V) → heapless_field (make v) ≡ view.heapless v)
    → IsFieldOf (made make g) (λ x. make (view.of x)) view g
made_by make same = record {
  make = make;
  reads = λ t. refl;
  sees = λ x. refl;
  heapless = same;
}

-- Fields that can't be written, by their numbers.
use Rattle.std.proofs.Common.{◌≡◌, ℕ, zero, suc, ◌<◌, false, List, [], ◌∷◌, length, map, Some, slice_get, refl, ap, sym, ◌∙◌, get_or, arith}
use Rattle.wat_print_module.specs.Prelude.{field_view, field_form, UnprintableField}
use Rattle.wat_core.specs.Field.{ModuleField}

get_seen : {X A : Type 0} (view : X → A) (xs : List X) (i : ℕ) (d : X) → i < length xs
    → slice_get (map view xs) i ≡ Some (view (get_or xs i d))
get_seen view [] i d lt = absurd (omega arith)
get_seen view (x ∷ xs) zero d lt = refl
get_seen view (x ∷ xs) (suc i) d lt = get_seen view xs i d (omega arith)

pub unprintable_at : (fs : List ModuleField) (i : ℕ) (x : ModuleField) → i < length fs
    → x ≡ get_or fs i x → field_form.printable (field_view x) ≡ false
    → UnprintableField (map field_view fs) (Some i)
unprintable_at fs i x lt s f = (
  field_view x,
  get_seen field_view fs i x lt ∙ ap (λ (y : ModuleField). Some (field_view y)) (sym s),
  f,
)

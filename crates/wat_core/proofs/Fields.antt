-- Fields that are read as values of a type.
use Rattle.std.proofs.Common.{true, Err, subst, sym}
use Rattle.wat_core.specs.Prelude.{turns_too, Error, Production, State, owning, ModuleFieldModel, ModuleField, field_view}
use Rattle.wat_tokens.specs.Cost.{Cost}
use Rattle.wat_tokens.specs.Views.{ViewOf}
use Rattle.wat_core.specs.Field.{heapless_field}
use Rattle.wat_tokens.specs.Parses.{Refuses}
use Rattle.wat_tokens.specs.Reads.{Call}
use Rattle.wat_tokens.specs.Laws.Refuses.{refused_as}
use Rattle.wat_core.specs.FieldOf.{IsFieldOf}

-- if no value was read, no field is read
pub refused_field : {X V : Type 0} {form : Production ModuleFieldModel} {seen : X → ModuleFieldModel} {k : Cost} {view : ViewOf X V} {g : Production V} → IsFieldOf form seen view g → (a b : State) (e : Error) → Call {X = X} k view (g.reads a.left) (Err e) a b → Call {X = ModuleField} turns_too (owning field_view heapless_field) (form.reads a.left) (Err e) a b
refused_field {view = view} {g = g} is a b e c = record {
  exact = subst (λ q. Refuses true heapless_field e.fault q) (sym (is.reads a.left)) (refused_as view.may_use_heap view.heapless heapless_field is.make is.heapless e.fault (g.reads a.left) c.exact);
  counts = c.counts;
  cost = tt;
  settings = c.settings;
}

-- Views of values, which contracts see, and which values own heap memory.
use Rattle.std.specs.Prelude.{Bool, true, false, List, [], ◌∷◌, Option, Some, None}

-- of: the view of a value, without positions and without references
-- may_use_heap: whether a value can hold a vector or a box
-- heapless: whether the value with this view holds no box and no nonempty vector
pub record ViewOf (X A : Type 0) : Type 0 where
  pub of : X → A
  pub may_use_heap : Bool
  pub heapless : A → Bool

-- for values that own no memory
abbrev pub plain : {X A : Type 0} → (X → A) → ViewOf X A
plain f = record { of = f; may_use_heap = false; heapless = λ _. true }

-- for values that own memory unless they are heapless
abbrev pub owning : {X A : Type 0} → (X → A) → (A → Bool) → ViewOf X A
owning f is_heapless = record { of = f; may_use_heap = true; heapless = is_heapless }

-- for values that own memory only if values of another type do
abbrev pub holding : {X A Y B : Type 0} → ViewOf X A → (Y → B) → (B → Bool) → ViewOf Y B
holding v f is_heapless = record { of = f; may_use_heap = v.may_use_heap; heapless = is_heapless }

abbrev pub no_items : {A : Type 0} → List A → Bool
no_items [] = true
no_items (v ∷ vs) = false

-- ---- optional values

abbrev pub option_view : {X A : Type 0} → (X → A) → Option X → Option A
option_view view (Some x) = Some (view x)
option_view view None = None

abbrev pub heapless_option : {A : Type 0} → (A → Bool) → Option A → Bool
heapless_option heapless (Some v) = heapless v
heapless_option heapless None = true

abbrev pub optional : {X A : Type 0} → ViewOf X A → ViewOf (Option X) (Option A)
optional v = holding v (option_view v.of) (heapless_option v.heapless)

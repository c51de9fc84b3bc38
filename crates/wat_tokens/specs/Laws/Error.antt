-- Laws: out of memory, or another fault.
use Rattle.std.specs.Prelude.{◌≡◌, ◌≢◌, refl}
use Rattle.wat_tokens.specs.Prelude.{Fault, Memory}

pub by_fault : {P : Type 0} (f : Fault) → (f ≡ Memory → P) → (f ≢ Memory → P) → P
by_fault Memory is not = is refl
by_fault _ is not = not (λ e. cc)

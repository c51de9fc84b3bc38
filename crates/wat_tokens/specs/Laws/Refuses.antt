-- Laws: the meaning of an error, if it isn't known whether values may own memory.
use Rattle.std.proofs.Common.{ap, ◌∙◌, ◌≡◌, ◌≢◌, Bool, true, false, None, Some, refl}
use Rattle.wat_tokens.specs.Prelude.{Fault, Memory, NotHeapless, Refuses, Read, bind}

pub refused_read : {A : Type 0} (own : Bool) (heapless : A → Bool) (f : Fault) (read : Read A)
    → Refuses own heapless f read → f ≢ Memory → read ≡ None
refused_read true heapless f read p n = p.0 n
refused_read false heapless f read p n = p.0

pub refused_memory : {A : Type 0} (own : Bool) (heapless : A → Bool) (f : Fault) (read : Read A)
    → Refuses own heapless f read → f ≡ Memory → (own ≡ true) × NotHeapless heapless read
refused_memory true heapless f read p m = (refl, p.1 m)
refused_memory false heapless f read p m = absurd (p.1 m)

-- an error for a value that is made of the value read
pub refused_as : {V W : Type 0} (own : Bool) (heapless : V → Bool) (bare' : W → Bool) (make : V → W)
    → ((v : V) → bare' (make v) ≡ heapless v) → (f : Fault) (read : Read V)
    → Refuses own heapless f read → Refuses true bare' f (bind read (λ v r. Some (make v, r)))
refused_as true heapless bare' make same f (Some x) (n, m) =
    (λ k. absurd (let e = n k in cc), λ k. same x.0 ∙ m k)
refused_as true heapless bare' make same f None x = (λ _. refl, λ _. tt)
refused_as false heapless bare' make same f read (n, m) =
    (λ _. ap (λ q. bind q (λ v r. Some (make v, r))) n, λ k. absurd (m k))

-- Results with other facts.
use Rattle.std.specs.Prelude.{◌≡◌, ◌≢◌, Result, Ok, Err, OnOk, IfOk, IfErr, ◌⊎◌}
use Rattle.std.proofs.Common.{inl}
use Rattle.wat_tokens.specs.Error.{Error, Memory, Unexpected}
use Rattle.wat_scripts.specs.Steps.{IsRefusal}

pub if_ok : {X E P Q : Type 0} (r : Result X E) → (P → Q) → OnOk r P → OnOk r Q
if_ok (Ok x) f p = f p
if_ok (Err e) f p = p

pub if_refused : {X P Q : Type 0} (r : Result X Error) → (P → Q) → IfErr r (λ e. IsRefusal e P) → IfErr r (λ e. IsRefusal e Q)
if_refused (Ok x) f p = p
if_refused (Err e) f p = λ denied. let (is, h) = p denied in (is, f h)

-- the only error is Memory
pub no_refusal : {X : Type 0} (Q : Type 0) (r : Result X Error) → IfErr r (λ e. e.fault ≡ Memory) → IfErr r (λ e. IsRefusal e Q)
no_refusal Q (Ok x) p = p
no_refusal Q (Err e) p = λ denied. absurd (denied p)

pub if_value : {X E : Type 0} {P Q : X → Type 0} (r : Result X E) → ((x : X) → P x → Q x) → IfOk r P → IfOk r Q
if_value (Ok x) f p = f x p
if_value (Err e) f p = p

-- a refusal, unless the error is Memory
pub if_failed : {X P Q : Type 0} (r : Result X Error) → (P → Q) → IfErr r (λ e. IsRefusal e P) → IfErr r (λ e. e.fault ≢ Memory → Q)
if_failed (Ok x) f p = p
if_failed (Err e) f p = λ denied. let (is, h) = p denied in f h

pub if_fault : {X : Type 0} (P : Type 0) (F : Error → Type 0) (r : Result X Error) → IfErr r (λ e. IsRefusal e P) → IfErr r (λ e. e.fault ≢ Memory → (e.fault ≡ Unexpected) ⊎ F e)
if_fault P F (Ok x) p = p
if_fault P F (Err e) p = λ denied. inl (p denied).0

-- The output for a text is right for the bytes of the text.
use Rattle.std.proofs.Common.{◌≡◌, ◌≢◌, ℕ, List, inl, inr, subst, Result, Ok, Err, IfOk}
use Rattle.wat_show.specs.Prelude.{IsUtf8, Error, Memory, offset_of}
use Rattle.wat_show.specs.Shown.{refusal, ShowsText, ShowsBytes}

module _ {A X E : Type 0} (spelled : List ℕ → A → Type 0) (listing : A → List ℕ) (text : List ℕ) where
  pub no_value : (result : Result X E) (out : X → List ℕ) (status : X → ℕ) (e : Error) → IfOk result (λ x. e.fault ≢ Memory) → IfOk result (λ x. out x ≡ refusal e.fault (offset_of e.span)) → IfOk result (λ x. status x ≡ 1) → (e.fault ≢ Memory → (v : A) → spelled text v → ⊥) → IfOk result (λ x. ShowsText spelled listing text (out x) (status x))
  no_value (Ok x) out status e fault line one none = inr (none fault, (e.fault, offset_of e.span, fault, line), one)
  no_value (Err r) out status e fault line one none = tt

-- an output that is right for a text is right for its bytes
pub text_shown : {X E : Type 0} (shows : List ℕ → List ℕ → ℕ → Type 0) (bytes text : List ℕ) (result : Result X E) (out : X → List ℕ) (status : X → ℕ) → text ≡ bytes → IsUtf8 bytes → IfOk result (λ x. shows text (out x) (status x)) → IfOk result (λ x. ShowsBytes shows bytes (out x) (status x))
text_shown shows bytes text (Ok x) out status e utf8 shown = inl (utf8, subst (λ (b : List ℕ). shows b (out x) (status x)) e shown)
text_shown shows bytes text (Err r) out status e utf8 shown = tt

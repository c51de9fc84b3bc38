-- The diagnostic of an error with other words for the expected tokens.
use Rattle.std.proofs.Common.{◌≡◌, ℕ, List, [], ◌∷◌, length, ◌∙◌, refl, arith}
use Rattle.wat_answers.specs.Prelude.{Fault, IsDiagnostic, Diagnostic}

pub expecting : (text : List ℕ) (offset : ℕ) (f : Fault) (d e : Diagnostic) → IsDiagnostic text offset f d → e.offset ≡ d.offset → e.length ≡ d.length → e.place ≡ d.place → e.kind ≡ d.kind
    → e.message.items ≡ d.message.items → e.shown.items ≡ d.shown.items → e.hint.items ≡ d.hint.items → IsDiagnostic text offset f e
expecting text offset f d e h o l p q m s i = (
  h.0,
  h.1,
  record {
    offset = o ∙ h.2.offset;
    marked = l ∙ h.2.marked;
    place = p ∙ h.2.place;
    kind = q ∙ h.2.kind;
    message = m ∙ h.2.message;
    shown = s ∙ h.2.shown;
    hint = i ∙ h.2.hint;
  },
)

pub no_items : (xs : List ℕ) → length xs ≡ 0 → xs ≡ []
no_items [] e = refl
no_items (x ∷ xs) e = absurd (omega arith)

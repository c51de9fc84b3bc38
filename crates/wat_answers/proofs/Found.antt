-- Notices, one after the other.
use Rattle.std.proofs.Common.{◌≡◌, ℕ, ◌+◌, ◌-◌, ◌<◌, Bool, false, List, [], ◌∷◌, ◌++◌, length, drop, take, get_or, refl, subst, sym, ap, ◌∙◌, append_assoc, add-one, drop-cons, Ok, Err, inl, inr, Vec, Global, Result, OnOk, Option, IfOk, ◌≢◌}
use Rattle.std.proofs.lemmas.List.{append-nil}
use Rattle.wat_print_module.specs.Prelude.{take_more, list_any, option_to_list, FirstFault, IsCut, Error, Fault, Memory, offset_of, Placed, IfFault, ModuleModel, SpellsModule, FieldFaults}
use Rattle.wat_answers.specs.Prelude.{IsDiagnostic, Diagnostic}
use Rattle.wat_answers.specs.Checked.{AddsDiagnosed, AddsFound, AreFaults, AreNotices, ChecksModule, ChecksText, ChecksMasked, Diagnosed, FindsFaults, FindsUncut, IsDiagnosticOf, beside_of, lead_of, more, more_notices, none}
use Rattle.wat_answers.specs.declared.task.Extent.{Extent}
use Rattle.wat_answers.specs.declared.notice.Notice.{Notice}
use Rattle.wat_answers.specs.declared.notice.Notice.TheVariants.{Found}
use Rattle.wat_masked.specs.Text.{IsMasked}

-- an item that doesn't pass doesn't change the result
pub no_error_at : {X : Type 0} (p : X → Bool) (xs : List X) (i : ℕ) (d : X) → i < length xs → p (get_or xs i d) ≡ false → list_any p (drop i xs) ≡ list_any p (drop (i + 1) xs)
no_error_at p xs i d l e = rw (add-one, drop-cons xs i d, e) refl

-- the words for the expected tokens change no other part of a diagnostic
pub placed_with : (text : List ℕ) (o : ℕ) (f : Fault) (d : Diagnostic) (words : Vec ℕ Global) → IsDiagnostic text o f d → IsDiagnostic text o f (record d { expected = words })
placed_with text o f d words (groups, has, p) = (
  groups,
  has,
  record {
    offset = p.offset;
    marked = p.marked;
    place = p.place;
    kind = p.kind;
    message = p.message;
    shown = p.shown;
    hint = p.hint;
  },
)

module _ {E : Type 0} (Is : E → Diagnostic → Type 0) where
  pub adds_none : (old : List Notice) → AddsDiagnosed Is [] old old
  adds_none old = ([], none, sym (append-nil old))

  pub adds_one : {T F : Type 0} (r : Result T F) (e : E) (old new : List Notice) → OnOk r (AddsFound Is e old new) → OnOk r (AddsDiagnosed Is (e ∷ []) old new)
  adds_one (Ok _) e old new (d, is, added) = (Found d ∷ [], more [] e [] d none is, added)
  adds_one (Err _) e old new added = tt

  pub adds_more : (es : List E) (i : ℕ) (z : E) (old mid new : List Notice) → i < length es → AddsDiagnosed Is (take i es) old mid → AddsFound Is (get_or es i z) mid new → AddsDiagnosed Is (take (i + 1) es) old new
  adds_more es i z old mid new l (ns, before, begun) (d, is, added) = (
    ns ++ Found d ∷ [],
    subst (λ (xs : List E). Diagnosed Is xs (ns ++ Found d ∷ [])) (sym (take_more es i z l)) (more (take i es) (get_or es i z) ns d before is),
    added ∙ ap (λ (xs : List Notice). xs ++ Found d ∷ []) begun ∙ append_assoc old ns (Found d ∷ []),
  )

module _ (text : List ℕ) where
  -- es are the errors of the fields; o0, o1, .. are the notices before and after each addition
  pub are_notices : (first : Error) (f : FieldFaults) (es : List Error) (lead beside : Option Error) (n : ℕ) (o0 o1 o2 o3 o4 : List Notice) → es ≡ f.faults.items → lead ≡ lead_of first es → beside ≡ beside_of first es f.beside → n ≡ f.count - length es → o0 ≡ [] → AddsDiagnosed (IsDiagnosticOf text) (option_to_list lead) o0 o1 → AddsDiagnosed (IsDiagnosticOf text) es o1 o2 → o3 ≡ o2 ++ more_notices n → AddsDiagnosed (IsDiagnosticOf text) (option_to_list beside) o3 o4 → AreNotices text first f o4
  unfolding AreNotices
  are_notices first f es lead beside n o0 o1 o2 o3 o4 same l b m z (x, led, e) (y, found, g) h (w, besides, k) =
      let further = more_notices n in
      let front : o3 ≡ (x ++ y) ++ further = h ∙ ap (λ (xs : List Notice). xs ++ further) (g ∙ ap (λ (xs : List Notice). xs ++ y) (e ∙ ap (λ (xs : List Notice). xs ++ x) z)) in
      let all : o4 ≡ x ++ (y ++ (further ++ w)) = k ∙ ap (λ (xs : List Notice). xs ++ w) front ∙ append_assoc (x ++ y) further w ∙ append_assoc x y (further ++ w) in
      let its_lead : lead ≡ lead_of first f.faults.items = l ∙ ap (λ (xs : List Error). lead_of first xs) same in
      let its_beside : beside ≡ beside_of first f.faults.items f.beside = b ∙ ap (λ (xs : List Error). beside_of first xs f.beside) same in
      let further_is : further ≡ more_notices (f.count - length f.faults.items) = ap (λ (i : ℕ). more_notices i) (m ∙ ap (λ (xs : List Error). f.count - length xs) same) in (
        x,
        y,
        w,
        subst (λ (o : Option Error). Diagnosed (IsDiagnosticOf text) (option_to_list o) x) its_lead led,
        subst (λ (xs : List Error). Diagnosed (IsDiagnosticOf text) xs y) same found,
        subst (λ (o : Option Error). Diagnosed (IsDiagnosticOf text) (option_to_list o) w) its_beside besides,
        all ∙ ap (λ (xs : List Notice). x ++ (y ++ (xs ++ w))) further_is,
      )

  pub finds_faults : {T E : Type 0} (read : List ℕ) (first : Error) (f : FieldFaults) (found : T → List Notice) (r : Result T E) → AreFaults read f → IfOk r (λ x. AreNotices text first f (found x)) → IfOk r (λ x. FindsFaults text read first (found x))
  finds_faults read first f found (Ok x) are is = (f, are, is)
  finds_faults read first f found (Err e) are is = tt

  -- a text that is a module
  pub module_of_masked : {T F : Type 0} (extent : Extent) (read : List ℕ) (m : ModuleModel) (found : T → List Notice) (status : T → ℕ) (r : Result T F) → SpellsModule read m → IfOk r (λ x. ChecksModule extent text m (found x) (status x)) → IfOk r (λ x. ChecksMasked extent text read (found x) (status x))
  unfolding ChecksMasked
  module_of_masked extent read m found status (Ok x) spells checks = inl (m, spells, checks)
  module_of_masked extent read m found status (Err e) spells checks = tt

  -- a text that isn't a module, if the fault isn't Memory
  pub faults_of_masked : (extent : Extent) (read : List ℕ) (ns : List Notice) (first : Error) → (first.fault ≢ Memory → (m : ModuleModel) → SpellsModule read m → ⊥) → first.fault ≢ Memory → FindsFaults text read first ns → ChecksMasked extent text read ns 1
  unfolding ChecksMasked
  faults_of_masked extent read ns first unless other finds = inr (unless other, (first, other, finds), refl)

  pub by_masked : {T E : Type 0} (extent : Extent) (read seen : List ℕ) (found : T → List Notice) (status : T → ℕ) (r : Result T E) → IsMasked text read → seen ≡ read → IfOk r (λ x. ChecksMasked extent text seen (found x) (status x)) → IfOk r (λ x. ChecksText extent text (found x) (status x))
  unfolding ChecksText
  by_masked extent read seen found status (Ok x) masked same checks = inl (read, masked, subst (λ (t : List ℕ). ChecksMasked extent text t (found x) (status x)) same checks)
  by_masked extent read seen found status (Err e) masked same checks = tt

  pub finds_uncut : (e : Error) (d : Diagnostic) (ns : List Notice) → e.fault ≢ Memory → IfFault e (FirstFault text e.fault (offset_of e.span)) → IfFault e ((ts : List Placed) → IsCut text ts → ⊥) → IsDiagnostic text (offset_of e.span) e.fault d → d.expected.items ≡ [] → ns ≡ Found d ∷ [] → FindsUncut text ns 1
  finds_uncut e d ns other first uncut is none_expected one = (uncut other, (e.fault, offset_of e.span, d, other, first other, is, none_expected, one), refl)

-- A text that is added to a report in three parts.
use Rattle.std.proofs.Common.{◌≡◌, ℕ, List, ◌++◌, subst, sym, ap, ◌∙◌, append_assoc, Ok, Err, Result, take, drop, [], append-nil, refl}
use Rattle.std.proofs.lemmas.List.{take-append-drop}
use Rattle.std.specs.Result.{OnOk}
use Rattle.wat.specs.Paints.{IsPainted, Paints, styled, more, nothing}
use Rattle.wat.specs.declared.paint.Style.{Style}
use Rattle.wat.specs.declared.paint.Style.TheVariants.{Plain}

pub middle_paints : (text front middle back old new : List ℕ) (style : Style) → text ≡ front ++ (middle ++ back) → new ≡ ((old ++ styled Plain front) ++ styled style middle) ++ styled Plain back → Paints text old new
unfolding Paints
middle_paints text front middle back old new style e n report before =
    let parts = more ((report ++ front) ++ middle) ((old ++ styled Plain front) ++ styled style middle) back Plain (more (report ++ front) (old ++ styled Plain front) middle style (more report old front Plain before)) in
    let joined : ((report ++ front) ++ middle) ++ back ≡ report ++ text = append_assoc (report ++ front) middle back ∙ append_assoc report front (middle ++ back) ∙ ap (λ l. report ++ l) (sym e) in
    subst (λ l. IsPainted (report ++ text) l) (sym n) (subst (λ l. IsPainted l (((old ++ styled Plain front) ++ styled style middle) ++ styled Plain back)) joined parts)

pub paints_more : (first second text old mid new : List ℕ) → text ≡ first ++ second → Paints first old mid → Paints second mid new → Paints text old new
unfolding Paints
paints_more first second text old mid new e one two report before =
    subst (λ l. IsPainted l new) (append_assoc report first second ∙ ap (λ l. report ++ l) (sym e)) (two (report ++ first) (one report before))

pub on_ok_then : {T E P Q : Type 0} (r : Result T E) → (P → Q) → OnOk r P → OnOk r Q
on_ok_then (Ok x) f p = f p
on_ok_then (Err e) f p = tt

-- a text is its first bytes and the rest
pub split : (text front back : List ℕ) (n : ℕ) → front ≡ take n text → back ≡ drop n text → text ≡ front ++ back
split text front back n f b =
    sym (ap (λ (l : List ℕ). l ++ back) f ∙ ap (λ (l : List ℕ). take n text ++ l) b ∙ take-append-drop n text)

-- a middle between two cuts, each part added in its style
pub middle_added : (text begun front middle back old one two new : List ℕ) (n m : ℕ) (style : Style) → begun ≡ take n text → back ≡ drop n text → front ≡ take m begun → middle ≡ drop m begun → one ≡ old ++ styled Plain front → two ≡ one ++ styled style middle → new ≡ two ++ styled Plain back → Paints text old new
middle_added text begun front middle back old one two new n m style b k f d e1 e2 e3 =
    let parts : text ≡ front ++ (middle ++ back) = split text begun back n b k ∙ ap (λ (l : List ℕ). l ++ back) (split begun front middle m f d) ∙ append_assoc front middle back in
    let added : new ≡ ((old ++ styled Plain front) ++ styled style middle) ++ styled Plain back = e3 ∙ ap (λ (l : List ℕ). l ++ styled Plain back) (e2 ∙ ap (λ (l : List ℕ). l ++ styled style middle) e1) in
    middle_paints text front middle back old new style parts added

-- what was painted so far, and one more line
abbrev pub PaintedUpTo : List ℕ → List ℕ → List ℕ → Type 0
PaintedUpTo report left output = (done : List ℕ) × (report ≡ done ++ left) × IsPainted done output

pub painted_more : (report left line rest old new : List ℕ) (n : ℕ) → line ≡ take n left → rest ≡ drop n left → Paints line old new → PaintedUpTo report left old → PaintedUpTo report rest new
unfolding Paints
painted_more report left line rest old new n l r paints (done, e, p) =
    (done ++ line, e ∙ ap (λ (x : List ℕ). done ++ x) (split left line rest n l r) ∙ sym (append_assoc done line rest), paints done p)

pub painted_all : (report left output : List ℕ) → left ≡ [] → PaintedUpTo report left output → IsPainted report output
painted_all report left output none (done, e, p) =
    subst (λ l. IsPainted l output) (sym (e ∙ ap (λ (x : List ℕ). done ++ x) none ∙ append-nil done)) p

pub painted_none : (report output : List ℕ) → output ≡ [] → PaintedUpTo report report output
painted_none report output none = ([], refl, subst (λ l. IsPainted [] l) (sym none) nothing)

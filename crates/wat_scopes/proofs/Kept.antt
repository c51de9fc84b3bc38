-- Lemmas on frames.
use Rattle.std.proofs.Common.{◌≡◌, ℕ, ◌+◌, length, MatchOption, arith, List, [], ◌∷◌, ◌++◌, Option, Some, None, refl, sym, ap, ◌∙◌, subst, option_to_list}
use Rattle.wat_tokens.specs.Prelude.{name_of}
use Rattle.wat_scopes.specs.Blocks.{FrameModel, labelled}
use Rattle.wat_scopes.specs.Frames.{frame_view, inside, is_first, AreFirsts, IsKept, IsKeptBut, PopsFrame, stack}
use Rattle.wat_scopes.specs.declared.blocks.Blocks.{Blocks}
use Rattle.wat_scopes.specs.declared.blocks.Frame.{Frame}

pub inside-push : (gs : List Frame) (g : Frame) (fs : List FrameModel)
    → inside (gs ++ g ∷ []) fs ≡ frame_view g ∷ inside gs fs
inside-push [] g fs = refl
inside-push (h ∷ gs) g fs = inside-push gs g (frame_view h ∷ fs)

pub firsts-push : (gs : List Frame) (g : Frame) (fs : List FrameModel) → AreFirsts fs gs
    → g.first ≡ is_first g.label (inside gs fs) → AreFirsts fs (gs ++ g ∷ [])
firsts-push [] g fs k e = (e, tt)
firsts-push (h ∷ gs) g fs k e = (k.0, firsts-push gs g (frame_view h ∷ fs) k.1 e)

pub firsts-front : (gs : List Frame) (g : Frame) (fs : List FrameModel)
    → AreFirsts fs (gs ++ g ∷ []) → AreFirsts fs gs
firsts-front [] g fs k = tt
firsts-front (h ∷ gs) g fs k = (k.0, firsts-front gs g (frame_view h ∷ fs) k.1)

pub firsts-last : (gs : List Frame) (g : Frame) (fs : List FrameModel)
    → AreFirsts fs (gs ++ g ∷ []) → g.first ≡ is_first g.label (inside gs fs)
firsts-last [] g fs k = k.0
firsts-last (h ∷ gs) g fs k = firsts-last gs g (frame_view h ∷ fs) k.1

-- a frame was pushed
pub stack_put : (xs ys : List Frame) (g : Frame) → ys ≡ xs ++ g ∷ []
    → inside ys [] ≡ frame_view g ∷ inside xs []
stack_put xs ys g e = ap (λ zs. inside zs []) e ∙ inside-push xs g []

pub kept_put : (a b : Blocks) (g : Frame) → b.frames.items ≡ a.frames.items ++ g ∷ []
    → b.labels ≡ a.labels → IsKeptBut g.label g.first a → IsKept b
kept_put a b g e l k =
    record {
      firsts =
          subst (λ xs. AreFirsts [] xs) (sym e)
          (firsts-push a.frames.items g [] k.firsts k.first);
      labels = λ q. rw l (k.labels q ∙ ap (λ fs. labelled (name_of q) fs) (sym (stack_put a.frames.items b.frames.items g e)));
    }

none_left : (xs : List Frame) → length xs ≡ 0 → xs ≡ []
none_left [] e = refl
none_left (x ∷ xs) e = absurd (omega arith)

-- a frame was popped
pub popped : (a b : Blocks) (r : Option Frame) → a.frames.items ≡ b.frames.items ++ option_to_list r
    → b.labels ≡ a.labels
    → MatchOption r (length a.frames.items ≡ 0) (λ _. Unit {0})
    → IsKept a → PopsFrame a r b
popped a b None e l n k = ap (λ xs. inside xs []) (none_left a.frames.items n)
popped a b (Some g) e l n k =
    let s : stack a ≡ frame_view g ∷ stack b = stack_put b.frames.items a.frames.items g e in
    let f : AreFirsts [] (b.frames.items ++ g ∷ []) = subst (λ xs. AreFirsts [] xs) e k.firsts in (
      s,
      record {
        firsts = firsts-front b.frames.items g [] f;
        first = firsts-last b.frames.items g [] f;
        labels = λ q. rw l (k.labels q ∙ ap (λ fs. labelled (name_of q) fs) s);
      },
    )

-- a list of this length is empty where there is no result
pub empty_at_none : {A : Type 0} (r : Option A) (v w n : ℕ)
    → MatchOption r ((v ≡ 0) × (w ≡ 0)) (λ _. w + 1 ≡ v) → v ≡ n
    → MatchOption r (n ≡ 0) (λ _. Unit {0})
empty_at_none None v w n m e = sym e ∙ m.0
empty_at_none (Some x) v w n m e = tt

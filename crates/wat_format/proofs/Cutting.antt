-- Texts with the same parts have cuts with the same tokens.
use Rattle.std.proofs.Common.{◌≡◌, ℕ, List, ap, sym, ◌∙◌, subst, length}
use Rattle.wat_format.specs.Prelude.{Closed, IsCut, Placed, tokens_of, one_cut, SameButSpaces}
use Rattle.wat_format.proofs.Reading.{reads_cuts}

pub same_cut : (text answer : List ℕ) (ts : List Placed) → SameButSpaces text answer → IsCut text ts → (us : List Placed) × IsCut answer us × (tokens_of us ≡ tokens_of ts)
same_cut text answer ts (ps, r, w) (cuts, closed) =
    let (vs, d, e) = reads_cuts (length text) r in
    let (us, f, g) = reads_cuts (length answer) w in
    let same = g ∙ sym e ∙ ap tokens_of (one_cut d cuts) in
    (us, (f, subst Closed (sym same) closed), same)

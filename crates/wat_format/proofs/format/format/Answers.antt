use Rattle.std.proofs.Common.{string_bytes, ◌≡◌, arith, ℕ, List}
use Rattle.wat_format.specs.Prelude.{IsCut, Placed, tokens_of, SameButSpaces}
use Rattle.wat_lexer.specs.Cut.{cutting}
use Rattle.wat_format.proofs.Cutting.{same_cut}
use Rattle.wat_format.proofs.format.format.Goals.{then-written-gt0+in-Ok-cut, else-written-gt0}
use Rattle.wat_lexer.specs.Laws.Fronts as fronts
use Rattle.wat_format.proofs.format.format.Goals as goal

both_cut : (text answer : List ℕ) (ts : List Placed) → IsCut text ts → SameButSpaces text answer → (vs : List Placed) × (us : List Placed) × IsCut text vs × IsCut answer us × (tokens_of us ≡ tokens_of vs)
both_cut text answer ts k h = let (us, j, same) = same_cut text answer ts h k in (ts, us, k, j, same)

pub returns-in-Err-clause-refused : goal.returns-in-Err-clause-refused
returns-in-Err-clause-refused c = λ fault.
    let (at, fails, place) = c.in-Err.ensures.fails fault in
    (rw place (cutting c.args.text.now c.in-Err.e.fault at fails), λ ts k. fronts.no_cut fails k.0)

pub returns-clause-tokens : goal.returns-clause-tokens
returns-clause-tokens c =
    let text = c.args.text.now in
    let answer = string_bytes c.in-Ok.written.text in
    elim c.if-written-gt0.branch [
      | then-written-gt0+in-Ok-cut w ↦ both_cut text answer _ w.in-Ok-cut.ensures.found c.in-Ok.ensures.same
      | else-written-gt0 w ↦ (let (ts, k) = c.in-Ok.ensures.closed (omega (arith, w.if-written-gt0.false)) in both_cut text answer ts k c.in-Ok.ensures.same)
    ]

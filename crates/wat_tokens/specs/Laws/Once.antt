-- Laws: productions with one reading.
use Rattle.std.proofs.Common.{◌≡◌, List, ◌++◌, ap, subst, sym, ◌∙◌}
use Rattle.wat_tokens.specs.Laws.Prelude.{append_cancel_right, Token, Production, some_is, HasOneReading}

pub reads_once : {A : Type 0} (g : Production A) → HasOneReading g
reads_once {A} g v w c d r s e p q =
    let x = some_is (v, r) (w, s) (sym (g.complete v c r p) ∙ ap (λ (u : List Token). g.reads u) e
    ∙ g.complete w d s q) in
    let rest : r ≡ s = ap (λ (u : A × List Token). u.1) x in (
      ap (λ (u : A × List Token). u.0) x,
      rest,
      append_cancel_right c d s
          (subst (λ (u : List Token). c ++ u ≡ d ++ s) rest e),
    )

use Rattle.std.proofs.Common.{arith, ◌≡◌, ◌+◌, ◌-◌, ◌∙◌, ap, drop, length, refl, sym, Some, false, slice_range}
use Rattle.wat_lexer.specs.Prelude.{behind_run, run_front, class, TokenTo, Between, Ends, view, is_paren}
use Rattle.wat_lexer.proofs.FrontAt.{run_first, run_token}
use Rattle.wat_lexer.proofs.Steps.{run_quote, rest_found}
use Rattle.wat_lexer.proofs.Whole.{whole_here, class_more, class_string}
use Rattle.wat_lexer.proofs.cut.string_run.Goals.{then-end-after-2+in_ok-content, else-end-after-2}
use Rattle.wat_lexer.proofs.cut.string_run.Goals as goal

pub part-run-requires-clause-first : goal.part-run-requires-clause-first
part-run-requires-clause-first c = run_first c.args.at c.args.quote c.args.text.now c.requires.order c.requires.quote c.requires.mark c.requires.plain

pub string_token-token-requires-clause-a_string : goal.string_token-token-requires-clause-a_string
string_token-token-requires-clause-a_string c =
    let bytes = c.as_bytes-bytes.ensures.value in
    let far = c.in-Ok.ensures.within in
    let near = rw c.in-Some.is at c.in_ok-string.ensures.within in
    let found = rw (bytes, c.in-Some.is) at c.in_ok-string.ensures.value in
    let after : c.in-Some.string.0 ≡ c.in-Ok.end = omega (arith, c.if-end-after-2.true) in
    let content = sym (rw after at found) ∙ ap (λ v. Some (v, drop c.in-Ok.end c.args.text.now)) (sym (rw bytes at c.in_ok-content.ensures)) in
    rw c.part-run.ensures (whole_here c.args.at c.args.quote c.in-Ok.end c.in_ok-content.content.now c.args.text.now c.requires.order (omega arith) (omega (arith, ap length bytes)) c.requires.mark content)

pub returns-then-end-after-clause-value : goal.returns-then-end-after-clause-value
returns-then-end-after-clause-value c =
    let text = c.args.text.now in
    let bytes = c.as_bytes-bytes.ensures.value in
    let end = c.in-Ok.end in
    let far = c.in-Ok.ensures.within in
    let near = rw c.in-Some.is at c.in_ok-string.ensures.within in
    let found = rw (bytes, c.in-Some.is) at c.in_ok-string.ensures.value in
    let here : c.args.quote ≡ c.args.at = omega arith in
    let after : c.in-Some.string.0 ≡ end = omega arith in
    let whole : behind_run Between (drop c.args.at text) ≡ Ends (drop end text) = c.requires.same ∙ rw (run_quote c.args.quote text c.requires.quote c.requires.mark, rest_found _ _ _ found) (rw bytes at c.in-Ok.ensures.value) in
    let content = sym (rw (c.if-plain.true, here, after) at found) in (
      run_token c.args.behind c.args.at end text _ (omega arith) (omega (arith, ap length bytes)) whole
          ∙ ap (λ t. TokenTo t (drop end text)) (class_string c.args.behind c.args.at end (slice_range text (c.args.at + 1) (end - 1)) text (omega arith) (omega (arith, ap length bytes)) (rw here at c.requires.mark) content),
      (omega arith, omega (arith, ap length bytes)),
      refl,
    )

pub returns-clause-value : goal.returns-clause-value
returns-clause-value c =
    let text = c.args.text.now in
    let bytes = c.as_bytes-bytes.ensures.value in
    let end = c.in-Ok.end in
    let far = c.in-Ok.ensures.within in
    let near = rw c.in-Some.is at c.in_ok-string.ensures.within in
    let found = rw (bytes, c.in-Some.is) at c.in_ok-string.ensures.value in
    let whole : behind_run Between (drop c.args.at text) ≡ Ends (drop end text) = c.requires.same ∙ rw (run_quote c.args.quote text c.requires.quote c.requires.mark, rest_found _ _ _ found) (rw bytes at c.in-Ok.ensures.value) in
    let run : run_front c.args.behind (drop c.args.at text) (behind_run Between (drop c.args.at text)) ≡ TokenTo (class c.args.behind (slice_range text c.args.at end)) (drop end text) = run_token c.args.behind c.args.at end text _ (omega (arith, c.requires.order)) (omega (arith, ap length bytes)) whole in
    let token : (class c.args.behind (slice_range text c.args.at end) ≡ view c.if-end-after-2.token) × (is_paren (view c.if-end-after-2.token) ≡ false) = elim c.if-end-after-2.branch [
      | then-end-after-2+in_ok-content w ↦ (rw (w.token-is, w.string_token-token.ensures.class, c.part-run.ensures), rw w.token-is w.string_token-token.ensures.no_paren)
      | else-end-after-2 w ↦ (rw (w.token-is, c.part-run.ensures) (class_more c.args.behind c.args.at c.args.quote c.in-Some.string.0 end _ text c.requires.order (omega arith) (omega (arith, w.if-end-after-2.false)) (omega (arith, ap length bytes)) c.requires.mark c.requires.plain (sym found)), rw w.token-is)
    ] in
    let (same, fits, put) = c.in_ok-kind.ensures text end in
    (run ∙ ap (λ t. TokenTo t (drop end text)) (token.0 ∙ same), fits, put)

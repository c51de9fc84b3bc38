use Rattle.std.proofs.Common.{arith, ◌≡◌, ◌∙◌, sym, drop}
use Rattle.wat_lexer.specs.Scan.{behind_run, Between}
use Rattle.wat_lexer.proofs.Plain.{plain_last}
use Rattle.wat_lexer.proofs.Steps.{run_steps}
use Rattle.wat_lexer.proofs.scan.strings_end.Goals as goal

pub loop-i-preserved : goal.loop-i-preserved
loop-i-preserved c =
    let text = c.args.text.now in
    let i = c.loop-i.i in
    let end = c.in-Some.end in
    let next = c.plain_end-i.result in
    let string : behind_run Between (drop i text) ≡ behind_run Between (drop end text) = grind (arith, run_steps) in
    record {
      same = sym c.plain_end-i.ensures.run ∙ sym string ∙ c.loop-i.invariant.same;
      ascii = λ lt. plain_last end next text c.plain_end-i.ensures.within.0 c.plain_end-i.ensures.within.1 c.plain_end-i.ensures.all (omega arith)
          (λ e. let quote = rw e at c.in-Some.ensures.quote in omega (arith, quote));
      stops = c.plain_end-i.ensures.stops;
      from = omega (arith, c.in-Some.ensures.within.0, c.plain_end-i.ensures.within.0, c.loop-i.invariant.from);
      within = c.plain_end-i.ensures.within.1;
    }

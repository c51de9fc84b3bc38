use Rattle.std.proofs.Common.{◌≡◌, ◌<◌, ◌∙◌, length, get_or, sym, arith, true}
use Rattle.wat_report.specs.Prelude.{is_close, is_open, no_entry}
use Rattle.wat_report.proofs.Groups.{no_close, no_more, one_more}
use Rattle.wat_report.proofs.front.groups_in.Goals.{then-opens, else-opens+then-closes, else-opens+else-closes}
use Rattle.wat_report.proofs.front.groups_in.Goals as goal

pub loop-at-preserved : goal.loop-at-preserved
loop-at-preserved c =
    let es = c.args.tokens.now in
    let i = c.loop-at.at in
    let before = c.loop-at.invariant in
    let within : i < length es = omega (arith, c.loop-at-test.true, c.requires) in
    elim c.if-opens.branch [
      | then-opens w ↦
          let opens : is_open (get_or es i no_entry).token ≡ true = sym c.opens.ensures ∙ w.if-opens.true in
          record {
            begun = rw (w.groups-is, one_more is_open es i within opens, ← before.begun);
            ended = rw (w.groups-is, no_more is_close es i within (no_close _ opens)) before.ended;
            few_begun = rw w.groups-is (omega (arith, before.few_begun));
            few_ended = rw w.groups-is (omega (arith, before.few_ended));
          }
      | else-opens+then-closes w ↦
          let opens = sym c.opens.ensures ∙ w.if-opens.false in
          let closes = sym w.closes.ensures ∙ w.if-closes.true in
          record {
            begun = rw (w.groups-is, no_more is_open es i within opens) before.begun;
            ended = rw (w.groups-is, one_more is_close es i within closes, ← before.ended);
            few_begun = rw w.groups-is (omega (arith, before.few_begun));
            few_ended = rw w.groups-is (omega (arith, before.few_ended));
          }
      | else-opens+else-closes w ↦
          let opens = sym c.opens.ensures ∙ w.if-opens.false in
          let closes = sym w.closes.ensures ∙ w.if-closes.false in
          record {
            begun = rw (w.groups-is, no_more is_open es i within opens) before.begun;
            ended = rw (w.groups-is, no_more is_close es i within closes) before.ended;
            few_begun = rw w.groups-is (omega (arith, before.few_begun));
            few_ended = rw w.groups-is (omega (arith, before.few_ended));
          }
    ]

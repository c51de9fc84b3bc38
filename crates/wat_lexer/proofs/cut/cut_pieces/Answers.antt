use Rattle.std.proofs.Common.{arith, ◌≡◌, ap, is_ok, length, length-drop, ◌∷◌, [], ◌++◌, ◌==◌, ◌&&◌, false, nat_lt}
use Rattle.std.proofs.ResultArms.{chosen}
use Rattle.wat_lexer.specs.Laws.Prelude.{length-append, map-append, Entry, has_annotation, is_open, lying, entries_of, found_tok, placed_of, no_skips, drop_of_length-le}
use Rattle.wat_lexer.proofs.Entries.{any_put, kept_more, put_few, untold}
use Rattle.wat_lexer.proofs.CutSoFar.{over_blank, over_piece, over_token, opened_within, at_end, fault_here, noted_more}
use Rattle.wat_lexer.proofs.cut.cut_pieces.Goals as goal

pub returns-in-Err-clause-fails : goal.returns-in-Err-clause-fails
returns-in-Err-clause-fails c = fault_here c.args.text.now c.loop-at.at _ _ c.in-Err.e c.loop-at.invariant.cuts (rw c.directly-behind.ensures at c.in-Err.ensures.value)

pub returns-clause-found : goal.returns-clause-found
returns-clause-found c = rw (c.of.ensures, untold c.args.text.now c.loop-at.side_table.items c.in_ok-skips.skips.items c.loop-at.tokens.items c.in_ok-skips.ensures.none) (at_end c.loop-at.invariant.cuts (drop_of_length-le c.args.text.now (rw c.as_bytes-bytes.ensures.value at c.loop-at-test.false)))

pub loop-at-preserved-in-Some : goal.loop-at-preserved-in-Some
loop-at-preserved-in-Some c =
    let bytes = c.as_bytes-bytes.ensures.value in
    let at = c.loop-at.at in
    let text = c.args.text.now in
    let end = c.in-Some.end in
    let next = c.spaces_end-at.result in
    let opened = c.loop-at.opened in
    let ls = c.loop-at.tokens.items in
    let side_table = c.loop-at.side_table.items in
    let before = entries_of text side_table [] ls in
    let within = rw bytes at c.in-Some.ensures.within in
    let spaces = rw bytes at c.spaces_end-at.ensures.within in
    let (front, fits, put) = rw bytes at (c.in-Some.ensures.value ((at == opened) && nat_lt 0 at) side_table) in
    let items : c.push.new.self.items ≡ ls ++ c.kept_near.result ∷ [] = chosen _ _ _ _ c.push.ensures.items (ap is_ok c.in_ok-push-in-Some.was) in
    let count : length side_table ≡ c.len.result = omega arith in
    let kept = c.kept_near.ensures text side_table count fits in
    let more = kept_more c.loop-at.invariant.fits c.loop-at.invariant.apart put kept items in
    let t = found_tok text side_table at end c.in-Some.kind in
    let e : Entry = record { token = t; offset = at; skips = no_skips } in
    let opens = c.last_opened-opened.ensures text side_table at fits in
    record {
      cuts = rw (opens, more.entries, map-append placed_of before (e ∷ [])) (over_piece (is_open t) opened at end next c.loop-at.invariant.opened within.0 spaces.0 spaces.1 (rw bytes at c.spaces_end-at.ensures.value) (over_token at c.loop-at.invariant.cuts front (omega (arith, length-drop at text, within))));
      noted = rw more.entries (noted_more before e (has_annotation (lying side_table)) (has_annotation (lying side_table)) c.loop-at.invariant.noted (any_put c.in-Some.kind text side_table side_table at end put));
      fits = more.fit;
      apart = more.apart;
      few = rw items (omega (arith, length-append ls (c.kept_near.result ∷ []), c.loop-at.invariant.few, within, spaces));
      few_lie = omega (arith, c.loop-at.invariant.few_lie, within, spaces);
      within = spaces.1;
      opened = rw opens (opened_within (is_open t) opened at end next c.loop-at.invariant.opened within.0 spaces.0);
    }

pub loop-at-preserved-in-None-kind : goal.loop-at-preserved-in-None-kind
loop-at-preserved-in-None-kind c =
    let bytes = c.as_bytes-bytes.ensures.value in
    let end = c.in-Ok.piece.end in
    let next = c.spaces_end-at-in-None-kind.result in
    let within = c.in-Ok.ensures.within in
    let spaces = rw bytes at c.spaces_end-at-in-None-kind.ensures.within in
    let (blank, same) = rw (c.in-None-kind.is, c.directly-behind.ensures) at c.in-Ok.ensures.value in
    record {
      cuts = rw same (over_piece false c.loop-at.opened c.loop-at.at end next c.loop-at.invariant.opened within.0 spaces.0 spaces.1 (rw bytes at c.spaces_end-at-in-None-kind.ensures.value) (over_blank c.loop-at.invariant.cuts blank));
      noted = rw same c.loop-at.invariant.noted;
      fits = rw same c.loop-at.invariant.fits;
      apart = c.loop-at.invariant.apart;
      few = omega (arith, c.loop-at.invariant, within, spaces);
      few_lie = rw same (omega (arith, c.loop-at.invariant.few_lie, within, spaces));
      within = spaces.1;
      opened = omega (arith, c.loop-at.invariant, within, spaces);
    }

pub loop-at-preserved : goal.loop-at-preserved
loop-at-preserved c =
    let bytes = c.as_bytes-bytes.ensures.value in
    let at = c.loop-at.at in
    let text = c.args.text.now in
    let end = c.in-Ok.piece.end in
    let next = c.spaces_end-at-in-Some-kind.result in
    let opened = c.loop-at.opened in
    let ls = c.loop-at.tokens.items in
    let side_table = c.next_piece.new.side_table.items in
    let before = entries_of text c.loop-at.side_table.items [] ls in
    let within = c.in-Ok.ensures.within in
    let spaces = rw bytes at c.spaces_end-at-in-Some-kind.ensures.within in
    let (front, fits, put) = rw (c.in-Some-kind.is, c.directly-behind.ensures) at c.in-Ok.ensures.value in
    let items : c.push-in-Some-kind.new.self.items ≡ ls ++ c.kept.result ∷ [] = chosen _ _ _ _ c.push-in-Some-kind.ensures.items (ap is_ok c.in_ok-push-in-Some-kind.was) in
    let count : length side_table ≡ c.len-in-Some-kind.result = omega arith in
    let kept = c.kept.ensures text side_table count fits in
    let more = kept_more c.loop-at.invariant.fits c.loop-at.invariant.apart put kept items in
    let t = found_tok text side_table at end c.in-Some-kind.kind in
    let e : Entry = record { token = t; offset = at; skips = no_skips } in
    let opens = c.last_opened-opened-in-Some-kind.ensures text side_table at fits in
    record {
      cuts = rw (opens, more.entries, map-append placed_of before (e ∷ [])) (over_piece (is_open t) opened at end next c.loop-at.invariant.opened within.0 spaces.0 spaces.1 (rw bytes at c.spaces_end-at-in-Some-kind.ensures.value) (over_token at c.loop-at.invariant.cuts front (omega (arith, length-drop at text, within))));
      noted = rw more.entries (noted_more before e (has_annotation (lying c.loop-at.side_table.items)) (has_annotation (lying side_table)) c.loop-at.invariant.noted (any_put c.in-Some-kind.kind text c.loop-at.side_table.items side_table at end put));
      fits = more.fit;
      apart = more.apart;
      few = rw items (omega (arith, length-append ls (c.kept.result ∷ []), c.loop-at.invariant.few, within, spaces));
      few_lie = omega (arith, put_few c.in-Some-kind.kind c.loop-at.side_table.items side_table put, c.loop-at.invariant.few_lie, within, spaces);
      within = spaces.1;
      opened = rw opens (opened_within (is_open t) opened at end next c.loop-at.invariant.opened within.0 spaces.0);
    }

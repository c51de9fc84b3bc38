use Rattle.std.proofs.Common.{◌≡◌, ◌+◌, [], ◌∙◌, refl, ap, sym, subst, arith, drop, get_or, false}
use Rattle.wat_lexer.specs.Laws.Prelude.{tokens_of-placed}
use Rattle.wat_masked.specs.Prelude.{drop_of_length-le, IsMasked, masked_text, visible_tokens, no_entry, placed, entry_tokens, begins_literal, change_of}
use Rattle.wat_masked.proofs.Changes.{Fits, fits}
use Rattle.wat_masked.proofs.MaskedText.{is_masked}
use Rattle.wat_masked.proofs.Seen.{first_visible, literal_next, visible_front}
use Rattle.wat_masked.proofs.Unchanged.{changed_more, none_changed, none_at_end}
use Rattle.wat_masked.proofs.Writing.{at_start, entry_front, ready, step, skipped, at_end}
use Rattle.wat_masked.proofs.masked.masked_if_changed.Goals as goal

pub loop-i-init : goal.loop-i-init
loop-i-init c = record {
  so = rw c.new-out.ensures.bytes (skipped 0 c.next_visible-i.result c.next_visible-i.ensures.value (at_start c.args.text.now c.args.tokens.now c.utf8.text c.requires.cut.0));
  changed = none_changed _ _ _ c.next_visible-i.ensures.same c.new-out.ensures.bytes;
  within = c.next_visible-i.ensures.within;
  visible = first_visible (entry_tokens (drop c.next_visible-i.result c.args.tokens.now)) c.next_visible-i.ensures.stops;
}

pub put-requires-clause-order : goal.put-requires-clause-order
put-requires-clause-order c =
    let tokens = c.args.tokens.now in
    let x = get_or tokens c.loop-i.i no_entry in
    let more = drop (c.loop-i.i + 1) tokens in
    let change = c.change_of-change.result in
    let front = entry_front c.loop-i.i tokens (rw c.len.ensures.value at c.loop-i-test.true) in
    let fit : Fits change x.token = rw c.change_of-change.ensures (fits c.loop-i.opened c.loop-i.row (begins_literal (entry_tokens (drop c.next_visible-next.result tokens))) x.token) in
    rw c.offset.ensures (ready x more change front fit c.loop-i.invariant.so).order

pub put-requires-clause-ends : goal.put-requires-clause-ends
put-requires-clause-ends c =
    let tokens = c.args.tokens.now in
    let x = get_or tokens c.loop-i.i no_entry in
    let more = drop (c.loop-i.i + 1) tokens in
    let change = c.change_of-change.result in
    let front = entry_front c.loop-i.i tokens (rw c.len.ensures.value at c.loop-i-test.true) in
    let fit : Fits change x.token = rw c.change_of-change.ensures (fits c.loop-i.opened c.loop-i.row (begins_literal (entry_tokens (drop c.next_visible-next.result tokens))) x.token) in
    rw c.offset.ensures (ready x more change front fit c.loop-i.invariant.so).ends

pub put-requires-clause-within : goal.put-requires-clause-within
put-requires-clause-within c =
    let tokens = c.args.tokens.now in
    let x = get_or tokens c.loop-i.i no_entry in
    let more = drop (c.loop-i.i + 1) tokens in
    let change = c.change_of-change.result in
    let front = entry_front c.loop-i.i tokens (rw c.len.ensures.value at c.loop-i-test.true) in
    let fit : Fits change x.token = rw c.change_of-change.ensures (fits c.loop-i.opened c.loop-i.row (begins_literal (entry_tokens (drop c.next_visible-next.result tokens))) x.token) in
    rw c.offset.ensures (ready x more change front fit c.loop-i.invariant.so).within

pub put-requires-clause-some : goal.put-requires-clause-some
put-requires-clause-some c =
    let tokens = c.args.tokens.now in
    let x = get_or tokens c.loop-i.i no_entry in
    let more = drop (c.loop-i.i + 1) tokens in
    let change = c.change_of-change.result in
    let front = entry_front c.loop-i.i tokens (rw c.len.ensures.value at c.loop-i-test.true) in
    let fit : Fits change x.token = rw c.change_of-change.ensures (fits c.loop-i.opened c.loop-i.row (begins_literal (entry_tokens (drop c.next_visible-next.result tokens))) x.token) in
    (ready x more change front fit c.loop-i.invariant.so).some

pub loop-i-preserved : goal.loop-i-preserved
loop-i-preserved c =
    let tokens = c.args.tokens.now in
    let x = get_or tokens c.loop-i.i no_entry in
    let more = drop (c.loop-i.i + 1) tokens in
    let next = c.next_visible-next.result in
    let change = c.change_of-change.result in
    let front = entry_front c.loop-i.i tokens (rw c.len.ensures.value at c.loop-i-test.true) in
    let follows = literal_next (drop next tokens) (visible_tokens false (entry_tokens more)) c.next_visible-next.ensures.first in
    let is : change ≡ change_of c.loop-i.opened c.loop-i.row (begins_literal (visible_tokens false (entry_tokens more))) x.token = c.change_of-change.ensures ∙ ap (λ b. change_of c.loop-i.opened c.loop-i.row b x.token) follows in
    let there = step x more change c.utf8.text front c.loop-i.invariant.visible is c.loop-i.invariant.so in
    let seen = visible_front x more front c.loop-i.invariant.visible in
    let fit : Fits change x.token = rw c.change_of-change.ensures (fits c.loop-i.opened c.loop-i.row (begins_literal (entry_tokens (drop next tokens))) x.token) in
    let some = (ready x more change front fit c.loop-i.invariant.so).some in
    let changed = changed_more (visible_tokens false (entry_tokens (drop c.loop-i.i tokens))) (visible_tokens false (entry_tokens more)) x.token c.args.text.now x.offset change seen is some c.loop-i.invariant.changed in
    record {
      so = rw (c.opens-opened.ensures, c.is_changed-row.ensures, c.in_ok-done.ensures.state, c.in_ok-done.ensures.wrote, c.offset.ensures) (skipped (c.loop-i.i + 1) next c.next_visible-next.ensures.value there);
      changed = rw (c.opens-opened.ensures, c.is_changed-row.ensures, c.in_ok-done.ensures.state, c.in_ok-done.ensures.wrote, c.offset.ensures, c.next_visible-next.ensures.same) changed;
      within = c.next_visible-next.ensures.within;
      visible = first_visible (entry_tokens (drop next tokens)) c.next_visible-next.ensures.stops;
    }

pub returns-then-done-eq0-clause-masked : goal.returns-then-done-eq0-clause-masked
returns-then-done-eq0-clause-masked c =
    let text = c.args.text.now in
    let tokens = c.args.tokens.now in
    let none : drop c.loop-i.i tokens ≡ [] = drop_of_length-le tokens (rw c.len.ensures.value at c.loop-i-test.false) in
    let (empty, _) = none_at_end (drop c.loop-i.i tokens) none c.if-done-eq0.true c.loop-i.invariant.changed in
    let same : text ≡ masked_text text (placed tokens) = rw (empty, c.if-done-eq0.true) at (at_end none c.loop-i.invariant.so) in
    subst (IsMasked text) (sym same) (is_masked text (placed tokens) c.requires.cut)

pub returns-then-done-eq0-clause-changed : goal.returns-then-done-eq0-clause-changed
returns-then-done-eq0-clause-changed c =
    let tokens = c.args.tokens.now in
    let none : drop c.loop-i.i tokens ≡ [] = drop_of_length-le tokens (rw c.len.ensures.value at c.loop-i-test.false) in
    let (_, stays) = none_at_end (drop c.loop-i.i tokens) none c.if-done-eq0.true c.loop-i.invariant.changed in
    rw (tokens_of-placed, stays) refl

pub returns-clause-masked : goal.returns-clause-masked
returns-clause-masked c =
    let text = c.args.text.now in
    let tokens = c.args.tokens.now in
    let none : drop c.loop-i.i tokens ≡ [] = drop_of_length-le tokens (rw c.len.ensures.value at c.loop-i-test.false) in
    rw (c.in_ok-push_str.ensures.bytes, c.range_from.ensures.value, at_end none c.loop-i.invariant.so) (is_masked text (placed tokens) c.requires.cut)

pub returns-clause-changed : goal.returns-clause-changed
returns-clause-changed c =
    rw (tokens_of-placed, c.loop-i.invariant.changed.some (omega arith)) refl

use Rattle.std.proofs.Common.{◌++◌, ◌∷◌, [], length, ap, ◌∙◌}
use Rattle.wat_c.specs.Prelude.{notice_words, record_of, records_of, Notice}
use Rattle.wat_c.specs.declared.fault.WatFault.{WatFault}
use Rattle.wat_c.proofs.Records.{one_more, words_more}
use Rattle.wat_c.proofs.fault.records_of.Goals as goal

pub loop-notice-init : goal.loop-notice-init
unfolding records_of
loop-notice-init c = record { faults = c.new-faults.ensures.items; messages = c.new-messages.ensures.items }

pub loop-notice-preserved : goal.loop-notice-preserved
loop-notice-preserved c =
    let ns = c.args.notices.now in
    let i = c.loop-notice.notice-index in
    let n = c.notice-item.result in
    let old = c.loop-notice.faults.items in
    let words = c.loop-notice.messages.items in
    record {
      faults = c.in_ok-push.ensures.items ∙ ap (λ (r : WatFault). old ++ r ∷ []) c.in_ok-notice_record.ensures.fault ∙ ap (λ (m : Notice). old ++ record_of (length words) m ∷ []) c.notice-item.is ∙ one_more ns i n old words c.loop-notice-test.true c.loop-notice.invariant.faults c.loop-notice.invariant.messages;
      messages = c.in_ok-notice_record.ensures.words ∙ ap (λ (m : Notice). words ++ notice_words m) c.notice-item.is ∙ words_more ns i n words c.loop-notice-test.true c.loop-notice.invariant.messages;
    }

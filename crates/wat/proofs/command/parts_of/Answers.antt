use Rattle.std.proofs.Common.{sym, ap, ◌∙◌, drop, map}
use Rattle.std.proofs.lemmas.List.{nil_from_length}
use Rattle.wat.specs.Prelude.{string_bytes, is_end}
use Rattle.wat.proofs.Words.{after_is, end_within}
use Rattle.wat.proofs.command.parts_of.Goals as goal

pub split_at-requires : goal.split_at-requires
split_at-requires c = end_within is_end string_bytes c.args.words.now c.end_of_options.result c.end_of_options.ensures

pub returns-in-Some-clause-after : goal.returns-in-Some-clause-after
returns-in-Some-clause-after c =
    sym (after_is is_end string_bytes c.args.words.now c.split_at.result.1.now c.end_of_options.result c.end_of_options.ensures c.split_at.ensures.back ∙ ap (λ l. map string_bytes (drop 1 l)) c.in-Some.ensures.cases.0)

pub returns-in-None-clause-after : goal.returns-in-None-clause-after
returns-in-None-clause-after c =
    let none = nil_from_length c.split_at.result.1.now c.in-None.ensures.cases in
    ap (map string_bytes) none ∙ sym (after_is is_end string_bytes c.args.words.now c.split_at.result.1.now c.end_of_options.result c.end_of_options.ensures c.split_at.ensures.back ∙ ap (λ l. map string_bytes (drop 1 l)) none)

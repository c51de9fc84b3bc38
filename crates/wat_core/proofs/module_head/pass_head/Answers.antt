use Rattle.std.proofs.Common.{◌∙◌, sym, ap, true}
use Rattle.wat_core.specs.Prelude.{State, seen, behind_one}
use Rattle.wat_core.specs.ModuleHead.{behind_id, behind_name}
use Rattle.wat_core.proofs.Groups.{named_ends, ends_few}
use Rattle.wat_core.proofs.module_head.pass_head.Goals as goal

pub returns-clause-behind : goal.returns-clause-behind
returns-clause-behind c =
    let few = ends_few (named_ends c.pass_token-2.new.self.rest) c.pass_token-2.ensures.few in
    λ _. (
      ap (λ (s : State). s.known) c.pass_name.ensures ∙ ap (λ (s : State). s.known) c.pass_id.ensures ∙ ap (λ (s : State). s.known) c.pass_token-2.ensures.value ∙ ap (λ (s : State). s.known) c.with_standard_annotations-2.ensures.value,
      ap (λ (s : State). s.left) c.pass_name.ensures ∙ sym (ap (λ (s : State). seen true s.rest) c.pass_name.ensures),
      ap (λ (s : State). s.rest) c.pass_name.ensures ∙ ap (λ (s : State). behind_name s.rest) c.pass_id.ensures ∙ ap (λ (s : State). behind_name (behind_id s.rest)) c.pass_token-2.ensures.value
          ∙ ap (λ (s : State). behind_name (behind_id (behind_one s.known s.rest))) c.with_standard_annotations-2.ensures.value ∙ ap (λ (s : State). behind_name (behind_id (behind_one true s.rest))) c.pass_token.ensures.value
          ∙ ap (λ (s : State). behind_name (behind_id (behind_one true (behind_one s.known s.rest)))) c.with_standard_annotations.ensures.value,
      rw (c.pass_name.ensures, c.pass_id.ensures) few,
    )

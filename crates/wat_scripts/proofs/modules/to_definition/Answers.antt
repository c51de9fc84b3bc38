use Rattle.std.proofs.Common.{◌∙◌, ap, sym, List, drop, true, false, codes}
use Rattle.wat_lexer.specs.Prelude.{Token, Placed}
use Rattle.wat_tokens.specs.Tests.{begins_word, second}
use Rattle.wat_tokens.specs.Visible.{closing}
use Rattle.wat_scripts.specs.Scripts.{names_definition, offset_if}
use Rattle.wat_scripts.specs.Steps.{front}
use Rattle.wat_scripts.proofs.Fronts.{left_is}
use Rattle.wat_scripts.proofs.Heads.{after_name, after_none, no_definition}
use Rattle.wat_scripts.proofs.modules.to_definition.Goals as goal

pub returns-then-names_definition-clause-value : goal.returns-then-names_definition-clause-value
returns-then-names_definition-clause-value c =
    let n = after_name (front c.args.parser.now) (ap (λ (t : List Token). second names_definition t) (sym (left_is c.requires)) ∙ sym c.names_definition.ensures ∙ c.if-names_definition.true) in
    let two = c.pass_token-then-names_definition.ensures.front ∙ ap (λ (l : List Placed). drop 1 l) c.pass_token.ensures.front in
    c.offset_if.ensures ∙ ap (λ (l : List Placed). offset_if (codes "definition") l) two ∙ n.0

pub returns-then-names_definition-clause-same : goal.returns-then-names_definition-clause-same
returns-then-names_definition-clause-same c =
    let n = after_name (front c.args.parser.now) (ap (λ (t : List Token). second names_definition t) (sym (left_is c.requires)) ∙ sym c.names_definition.ensures ∙ c.if-names_definition.true) in
    let two = c.pass_token-then-names_definition.ensures.front ∙ ap (λ (l : List Placed). drop 1 l) c.pass_token.ensures.front in
    ap (λ (l : List Placed). closing 0 (drop 1 l)) two ∙ n.1

pub returns-then-second_is-clause-value : goal.returns-then-second_is-clause-value
returns-then-second_is-clause-value c =
    let n = after_none (front c.args.parser.now) (ap (λ (t : List Token). second (begins_word (codes "definition")) t) (sym (left_is c.requires)) ∙ sym c.second_is.ensures ∙ c.if-second_is.true) in
    c.offset_if-then-second_is.ensures ∙ ap (λ (l : List Placed). offset_if (codes "definition") l) c.pass_token-then-second_is.ensures.front ∙ n.0

pub returns-then-second_is-clause-same : goal.returns-then-second_is-clause-same
returns-then-second_is-clause-same c =
    let n = after_none (front c.args.parser.now) (ap (λ (t : List Token). second (begins_word (codes "definition")) t) (sym (left_is c.requires)) ∙ sym c.second_is.ensures ∙ c.if-second_is.true) in
    ap (λ (l : List Placed). closing 0 (drop 1 l)) c.pass_token-then-second_is.ensures.front ∙ n.1

pub returns-clause-value : goal.returns-clause-value
returns-clause-value c =
    no_definition (front c.args.parser.now)
    (ap (λ (t : List Token). second names_definition t) (sym (left_is c.requires)) ∙ sym c.names_definition.ensures ∙ c.if-names_definition.false)
    (ap (λ (t : List Token). second (begins_word (codes "definition")) t) (sym (left_is c.requires)) ∙ sym c.second_is.ensures ∙ c.if-second_is.false)

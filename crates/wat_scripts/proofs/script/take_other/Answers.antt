use Rattle.std.proofs.Common.{◌≡◌, ◌∙◌, ap, sym, List, ◌∷◌, drop, true, false, codes, arith}
use Rattle.wat_lexer.specs.Prelude.{Token, Placed, tokens_of}
use Rattle.wat_tokens.specs.Prelude.{run, at_listed}
use Rattle.wat_tokens.specs.Tests.{begins_group, begins_lparen}
use Rattle.wat_scripts.specs.Commands.{command_words}
use Rattle.wat_scripts.specs.Scripts.{open_at}
use Rattle.wat_scripts.specs.Steps.{front}
use Rattle.wat_scripts.proofs.Fronts.{left_is, opens, first_place}
use Rattle.wat_scripts.proofs.Outcomes.{if_ok, if_refused}
use Rattle.wat_scripts.proofs.Commands.{not_named, word_listed, not_module, other_command, not_parts}
use Rattle.wat_scripts.proofs.script.take_other.Goals as goal

pub returns-then-not-begins_named-clause-refused : goal.returns-then-not-begins_named-clause-refused
returns-then-not-begins_named-clause-refused c =
    let ts = front c.args.parser.now in
    let lparen : begins_lparen (tokens_of ts) ≡ true = ap (λ (t : List Token). begins_lparen t) (sym (left_is c.requires.ready)) ∙ c.requires.group in
    let left = c.cursor.ensures ∙ left_is c.pass_token.ensures.ready ∙ ap tokens_of c.pass_token.ensures.front in
    let denied : run (at_listed command_words) (tokens_of (drop 1 ts)) ≡ false = ap (λ (t : List Token). run (at_listed command_words) t) (sym left) ∙ sym c.begins_named.ensures ∙ (cc) in
    λ _. (c.unexpected.ensures, not_named ts lparen denied)

pub returns-clause-passes : goal.returns-clause-passes
returns-clause-passes c =
    let ts = front c.args.parser.now in
    let lparen : begins_lparen (tokens_of ts) ≡ true = ap (λ (t : List Token). begins_lparen t) (sym (left_is c.requires.ready)) ∙ c.requires.group in
    let left = c.cursor.ensures ∙ left_is c.pass_token.ensures.ready ∙ ap tokens_of c.pass_token.ensures.front in
    let listed : run (at_listed command_words) (tokens_of (drop 1 ts)) ≡ true = ap (λ (t : List Token). run (at_listed command_words) t) (sym left) ∙ sym c.begins_named.ensures ∙ (cc) in
    let (w, at, is, word) = word_listed (drop 1 ts) listed in
    let opened = opens ts lparen in
    let whole = opened ∙ ap (λ (l : List Placed). open_at (first_place ts) ∷ l) word in
    let other : begins_group (codes "module") (tokens_of ts) ≡ false = ap (λ (t : List Token). begins_group (codes "module") t) (sym (left_is c.requires.ready)) ∙ c.requires.other in
    let denied = not_module w at (drop 1 (drop 1 ts)) (ap (λ (l : List Placed). begins_group (codes "module") (tokens_of l)) (sym whole) ∙ other) in
    let two = c.pass_token-2.ensures.front ∙ ap (λ (l : List Placed). drop 1 l) c.pass_token.ensures.front in
    if_ok c.take_parts.result (λ p. other_command ts (first_place ts) at w is denied whole (rw two at p)) c.take_parts.ensures.passes

pub returns-clause-refused : goal.returns-clause-refused
returns-clause-refused c =
    let ts = front c.args.parser.now in
    let lparen : begins_lparen (tokens_of ts) ≡ true = ap (λ (t : List Token). begins_lparen t) (sym (left_is c.requires.ready)) ∙ c.requires.group in
    let left = c.cursor.ensures ∙ left_is c.pass_token.ensures.ready ∙ ap tokens_of c.pass_token.ensures.front in
    let listed : run (at_listed command_words) (tokens_of (drop 1 ts)) ≡ true = ap (λ (t : List Token). run (at_listed command_words) t) (sym left) ∙ sym c.begins_named.ensures ∙ (cc) in
    let (w, at, is, word) = word_listed (drop 1 ts) listed in
    let opened = opens ts lparen in
    let whole = opened ∙ ap (λ (l : List Placed). open_at (first_place ts) ∷ l) word in
    let other : begins_group (codes "module") (tokens_of ts) ≡ false = ap (λ (t : List Token). begins_group (codes "module") t) (sym (left_is c.requires.ready)) ∙ c.requires.other in
    let denied = not_module w at (drop 1 (drop 1 ts)) (ap (λ (l : List Placed). begins_group (codes "module") (tokens_of l)) (sym whole) ∙ other) in
    let two = c.pass_token-2.ensures.front ∙ ap (λ (l : List Placed). drop 1 l) c.pass_token.ensures.front in
    if_refused c.take_parts.result (λ p. not_parts ts (first_place ts) at w (drop 1 (drop 1 ts)) denied whole (rw two at p)) c.take_parts.ensures.refused

pub returns-clause-less : goal.returns-clause-less
returns-clause-less c = if_ok c.take_parts.result (λ lt. omega (arith, lt, c.pass_token.ensures.fewer, c.pass_token-2.ensures.fewer)) c.take_parts.ensures.less

use Rattle.std.proofs.Common.{◌∙◌, arith, sym, drop, length-drop}
use Rattle.wat_lexer.specs.Laws.Prelude.{entry_tokens, hidden_count_none}
use Rattle.wat_lexer.proofs.Skips.{hidden_count_within, visible_at, visible_same, none_hidden}
use Rattle.wat_lexer.proofs.hidden.hidden_count.Goals as goal

pub returns-then-begins_hidden_group-clause-value : goal.returns-then-begins_hidden_group-clause-value
returns-then-begins_hidden_group-clause-value c = c.skip_in_front.ensures ∙ c.requires.skips c.args.known 0 (sym c.begins_hidden_group.ensures.value ∙ c.if-begins_hidden_group.true)

pub returns-then-begins_hidden_group-clause-within : goal.returns-then-begins_hidden_group-clause-within
returns-then-begins_hidden_group-clause-within c = omega (arith, returns-then-begins_hidden_group-clause-value c, hidden_count_within c.args.known (drop c.args.at c.args.tokens.now), length-drop c.args.at c.args.tokens.now, c.requires.within)

pub returns-then-begins_hidden_group-clause-first : goal.returns-then-begins_hidden_group-clause-first
returns-then-begins_hidden_group-clause-first c = visible_at c.args.known (drop c.args.at c.args.tokens.now) c.skip_in_front.result (returns-then-begins_hidden_group-clause-value c)

pub returns-else-begins_hidden_group-clause-first : goal.returns-else-begins_hidden_group-clause-first
returns-else-begins_hidden_group-clause-first c = visible_at c.args.known (drop c.args.at c.args.tokens.now) 0 (sym (hidden_count_none c.args.known (entry_tokens (drop c.args.at c.args.tokens.now)) (sym c.begins_hidden_group.ensures.value ∙ c.if-begins_hidden_group.false)))

pub returns-then-begins_hidden_group-clause-same : goal.returns-then-begins_hidden_group-clause-same
returns-then-begins_hidden_group-clause-same c = visible_same c.args.known (drop c.args.at c.args.tokens.now) c.skip_in_front.result (returns-then-begins_hidden_group-clause-value c)

pub returns-then-begins_hidden_group-clause-stops : goal.returns-then-begins_hidden_group-clause-stops
returns-then-begins_hidden_group-clause-stops c = none_hidden c.args.known (drop c.args.at c.args.tokens.now) c.skip_in_front.result (returns-then-begins_hidden_group-clause-value c)

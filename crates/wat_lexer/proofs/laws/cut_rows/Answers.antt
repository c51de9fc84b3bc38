use Rattle.wat_lexer.proofs.Rows.{comments, strings, quoted_names, spoiled, integers, values, hidden_groups, faults, unclosed_group}
use Rattle.wat_lexer.proofs.laws.cut_rows.Goals as goal

pub returns-clause-comments : goal.returns-clause-comments
returns-clause-comments c = comments

pub returns-clause-strings : goal.returns-clause-strings
returns-clause-strings c = strings

pub returns-clause-quoted_names : goal.returns-clause-quoted_names
returns-clause-quoted_names c = quoted_names

pub returns-clause-spoiled : goal.returns-clause-spoiled
returns-clause-spoiled c = spoiled

pub returns-clause-integers : goal.returns-clause-integers
returns-clause-integers c = integers

pub returns-clause-values : goal.returns-clause-values
returns-clause-values c = values

pub returns-clause-hidden_groups : goal.returns-clause-hidden_groups
returns-clause-hidden_groups c = hidden_groups

pub returns-clause-faults : goal.returns-clause-faults
returns-clause-faults c = faults

pub returns-clause-unclosed_group : goal.returns-clause-unclosed_group
returns-clause-unclosed_group c = unclosed_group

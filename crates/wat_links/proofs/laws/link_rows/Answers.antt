use Rattle.wat_links.proofs.LinkRows.{imports_of_texts, inline_names}
use Rattle.wat_links.proofs.laws.link_rows.Goals as goal

pub returns-clause-imports : goal.returns-clause-imports
returns-clause-imports c = imports_of_texts

pub returns-clause-inline_names : goal.returns-clause-inline_names
returns-clause-inline_names c = inline_names

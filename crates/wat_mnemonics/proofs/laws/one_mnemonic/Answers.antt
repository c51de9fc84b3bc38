use Rattle.wat_mnemonics.specs.Laws.TableIndex.{one_word, one_row, row_below}
use Rattle.wat_mnemonics.proofs.Rows.{each_row}
use Rattle.wat_mnemonics.proofs.laws.one_mnemonic.Goals as goal

pub returns-clause-word : goal.returns-clause-word
returns-clause-word c = one_word

pub returns-clause-row : goal.returns-clause-row
returns-clause-row c = one_row

pub returns-clause-below : goal.returns-clause-below
returns-clause-below c = row_below

pub returns-clause-each : goal.returns-clause-each
returns-clause-each c = each_row

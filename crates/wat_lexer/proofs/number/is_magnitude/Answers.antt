use Rattle.std.proofs.Common.{sym, ◌∙◌}
use Rattle.wat_lexer.proofs.Plain.{hex_after}
use Rattle.wat_lexer.proofs.number.is_magnitude.Goals as goal

pub is_number-requires : goal.is_number-requires
is_number-requires c = (hex_after c.args.from c.args.text.now (sym c.begins_hex.ensures ∙ c.if-begins_hex.true)).0

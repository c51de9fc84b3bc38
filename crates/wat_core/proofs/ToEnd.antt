-- Fields, and pieces, are read to the end.
use Rattle.std.specs.Prelude.{◌≡◌, List, refl}
use Rattle.wat_core.specs.Prelude.{Token, more, many_reads, string, field_group, field_group_consumes, fields, pieces}

pub fields_read : (t : List Token) → many_reads more field_group t ≡ fields.reads t
unfolding fields
fields_read t = refl

pub pieces_read : (t : List Token) → many_reads more string t ≡ pieces.reads t
unfolding pieces
pieces_read t = refl

pub ruleset read_to_end = (field_group_consumes, fields_read, pieces_read)

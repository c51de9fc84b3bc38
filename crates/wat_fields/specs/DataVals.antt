-- Lists of data values.
use Rattle.std.specs.Prelude.{List}
use Rattle.wat_links.specs.Prelude.{Production, many, at_more}
use Rattle.wat_fields.specs.DataVal.{DataValModel, data_val}
use Rattle.wat_fields.specs.Laws.DataVal.{data_val_consumes}

-- DataVal*, to the end
unfoldable pub data_vals : Production (List DataValModel)
data_vals = many at_more data_val data_val_consumes

-- Values of data segments.
use Rattle.std.specs.Prelude.{ℕ, Bool, true, List, map}
use Rattle.wat_links.specs.Prelude.{Production, made, where_else, paren, string, no_items, at_lparen}
use Rattle.wat_fields.specs.Numbers.{number_list}
use Rattle.wat_fields.specs.declared.data_val.DataVal.{DataVal}
use Rattle.wat_fields.specs.declared.data_val.DataVal.TheVariants as code

-- ---- views

-- the bytes of a string, or the bytes of numbers
pub data DataValModel : Type 0 where
  written : List ℕ → DataValModel
  numbers : List ℕ → DataValModel

-- all bytes of a value, in order
abbrev pub bytes_in : DataValModel → List ℕ
bytes_in (written bs) = bs
bytes_in (numbers bs) = bs

abbrev pub data_val_view : DataVal → DataValModel
data_val_view (code.String s) = written s.now
data_val_view (code.Integral v) = numbers v.items

abbrev pub data_vals_view : List DataVal → List DataValModel
data_vals_view vs = map data_val_view vs

-- no number
abbrev pub heapless_val : DataValModel → Bool
heapless_val (written bs) = true
heapless_val (numbers bs) = no_items bs

-- ---- the grammar

-- ( numbers ) if `(` is next; otherwise bytes
unfoldable pub data_val : Production DataValModel
data_val = where_else at_lparen (made numbers (paren number_list)) (made written string)

-- Small tokens, masked, by computation.
use Rattle.std.specs.Prelude.{refl}
use Rattle.wat_masked.specs.Prelude.{visible_tokens, visible, is_float, state_after, takes_floats, is_type, changes}
use Rattle.wat_masked.specs.Rows.{Floats, NoFloats, Constant, Data, Row, Hidden, Unchanged}

pub floats : Floats
unfolding is_float state_after
floats = (refl, refl, refl, refl, refl, refl, refl)

pub no_floats : NoFloats
unfolding is_float state_after
no_floats = (refl, refl, refl, refl, refl, refl, refl, refl)

pub constant : Constant
unfolding is_float state_after takes_floats is_type changes visible_tokens visible
constant = refl

pub data_row : Data
unfolding is_float state_after takes_floats is_type changes visible_tokens visible
data_row = refl

pub row_ends : Row
unfolding is_float state_after takes_floats is_type changes visible_tokens visible
row_ends = refl

pub hidden : Hidden
unfolding is_float state_after takes_floats is_type changes visible_tokens visible
hidden = refl

pub unchanged : Unchanged
unfolding is_float state_after takes_floats is_type changes visible_tokens visible
unchanged = refl

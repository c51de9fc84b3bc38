-- The names that files of this crate and of the crates above it import most, passed on from one place.
-- Declares nothing.
pub use Rattle.wat_expr.specs.Prelude.{Items, Read}
unfoldable pub use Rattle.wat_expr.specs.Prelude.{items_at}
unfoldable pub use Rattle.wat_expr.specs.Folded.{groups_at}

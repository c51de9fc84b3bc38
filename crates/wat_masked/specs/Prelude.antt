-- The names that files of this crate and of the crates above it import most, passed on from one place.
-- Declares nothing.
pub use Rattle.std.proofs.Math.Seq.{drop-append_seam}
pub use Rattle.std.proofs.lemmas.List.{length-replicate}
pub use Rattle.std.specs.Option.{option_to_list}
pub use Rattle.wat_lexer.specs.Laws.Prelude.{drop_of_length-le, bytes_eq-Decides, IsUtf8, bytes_eq, is_idchar, Begins, Blank, Cuts, FirstFault, Idchars, IsCut, IsToken, in_no_run, by_test, is_integer, offset_of, begins_hidden_group, deeper, shuts, Annotation, Entry, Id, Integer, Keyword, LParen, Placed, RParen, Reserved, String, Token, is_open, tokens_of, IfFault, entry_tokens, no_entry, placed}
unfoldable pub use Rattle.wat_lexer.specs.Laws.Prelude.{read, hidden_count, visible, visible_tokens}
pub use Rattle.wat_masked.specs.Float.{next}
unfoldable pub use Rattle.wat_masked.specs.Float.{is_float, state_after}
pub use Rattle.wat_masked.specs.Text.{IsMasked, Patch, masked_text, patch_of, patches, zero_bytes}
unfoldable pub use Rattle.wat_masked.specs.Text.{rebuilt}
pub use Rattle.wat_masked.specs.Tokens.{all_changed, begins_literal, change_of, changed, is_changed, is_float_word, is_literal, masked_tokens, with_i}
unfoldable pub use Rattle.wat_masked.specs.Tokens.{changes, has_none, is_type, takes_floats}

-- The names that files of this crate and of the crates above it import most, passed on from one place.
-- Declares nothing.
pub use Rattle.std.specs.Bool.{Decides}
pub use Rattle.std.specs.Char.{digit_value}
pub use Rattle.std.specs.Cmp.{unsigned_Decides}
pub use Rattle.std.specs.Cmp.Derive.{both_true}
pub use Rattle.std.specs.Cmp.Lexicographic.{bytes_decides}
pub use Rattle.std.specs.List.{AllByRecursion}
pub use Rattle.std.specs.Str.{IsCharBoundary, IsUtf8, bytes_eq}
pub use Rattle.wat_lexer.specs.Bytes.{between, is_idchar, is_line_end, is_space}
pub use Rattle.wat_lexer.specs.Cut.{Begins, Blank, Broken, Classed, Closed, Cuts, Element, Fails, FirstFault, Idchars, Inside, IsCut, IsString, IsToken, Run, Str, begins, blank, block, close, closed, code_point, done, hex_byte, idchar, in_no_run, is_hex, is_raw, last, line, more, none, open_comment, opened, other, raw_byte, short_escape, short_form, space, string, token, wrong_char, wrong_string}
pub use Rattle.wat_lexer.specs.Integer.{text_of}
pub use Rattle.wat_lexer.specs.Number.{begins_hex, is_integer, signed_value, unsigned_value, without_sign}
unfoldable pub use Rattle.wat_lexer.specs.Number.{read}
pub use Rattle.wat_lexer.specs.Offset.{offset_of}
pub use Rattle.wat_lexer.specs.Scan.{Bad, Beginning, Between, BlankTo, Brace, Byte, Close, Digits, Emit, Encode, Ends, Escape, Into, Mode, Nothing, Raw, RunEnd, Step, Stuck, TokenTo, Wrong, after_step, comment_front, emitted, or_reserved, run_front, tail, text_name, whole, with_front}
unfoldable pub use Rattle.wat_lexer.specs.Scan.{all_idchars, behind_comment, behind_line, behind_run, class, front, name_behind, rest_at, step, string_at, string_of}
pub use Rattle.wat_lexer.specs.Sight.{begins_hidden_group, deeper, shuts}
unfoldable pub use Rattle.wat_lexer.specs.Sight.{behind_group, hidden_count, hidden_count_at, visible_tokens}
pub use Rattle.wat_lexer.specs.Token.{Annotation, Entry, Id, Integer, Keyword, LParen, Placed, RParen, Reserved, String, Token, has_annotation, is_annotation, is_close, is_open, tokens_of}
pub use Rattle.wat_lexer.specs.View.{AllApart, AllCanBeRead, AreSkips, entries_of, entry_tok, entry_tokens, is_paren, lying, no_entry, placed, placed_of, view}

-- The names of the prelude, and the laws, for proofs and laws.
-- Declares nothing.
pub use Rattle.std.proofs.Math.Bool.{and-false}
pub use Rattle.std.proofs.Math.ListN.{drop_of_length-le, get_or, set}
pub use Rattle.std.proofs.Math.Seq.{get_or-append_seam, take-append-add, take-append_seam}
pub use Rattle.std.proofs.lemmas.Bool.{and_parts, and_right, cases_Bool, cases_lt, eqb-true, ltb-false, not-true, or_from, or_left, or_parts, or_right}
pub use Rattle.std.proofs.lemmas.Bool.Decides.{nat_tests}
pub use Rattle.std.proofs.lemmas.Grind.{common_steps}
pub use Rattle.std.proofs.lemmas.List.{drop-map, drop_more, get_or-map, get_or-set_other, length-append, length-map, map-append, take-append-drop, take_more}
pub use Rattle.std.proofs.lemmas.Slice.Eq.{bytes_eq-Decides}
pub use Rattle.std.proofs.lemmas.Str.{IsCharBoundary-after_ascii, IsCharBoundary-before_ascii, IsCharBoundary-start, IsUtf8-from_ascii, IsUtf8-from_is_utf8, is_utf8-from_IsUtf8}
pub use Rattle.std.specs.Cmp.{first_so}
pub use Rattle.wat_lexer.specs.Prelude.{digit_value, AllByRecursion, IsCharBoundary, IsUtf8, bytes_eq, between, is_idchar, is_line_end, is_space, Begins, Blank, Broken, Closed, Cuts, Fails, FirstFault, Idchars, Inside, IsCut, IsToken, Run, begins, block, closed, done, in_no_run, is_hex, is_raw, last, line, open_comment, opened, other, short_escape, space, wrong_char, wrong_string, begins_hex, is_integer, without_sign, offset_of, Bad, Beginning, Between, BlankTo, Brace, Byte, Close, Digits, Emit, Encode, Ends, Escape, Into, Mode, Nothing, Raw, RunEnd, Step, Stuck, TokenTo, Wrong, after_step, comment_front, emitted, or_reserved, run_front, tail, text_name, whole, with_front, begins_hidden_group, deeper, shuts, Annotation, Entry, Id, Integer, Keyword, LParen, Placed, RParen, Reserved, String, Token, has_annotation, is_annotation, is_close, is_open, tokens_of, AreSkips, entries_of, entry_tok, entry_tokens, lying, no_entry, placed, placed_of, view}
unfoldable pub use Rattle.wat_lexer.specs.Prelude.{read, all_idchars, behind_comment, behind_line, behind_run, class, front, name_behind, rest_at, step, string_at, string_of, behind_group, hidden_count, hidden_count_at, visible_tokens}
pub use Rattle.wat_lexer.specs.Cut.{FirstUnclosed, Unclosed, closing, cutting}
pub use Rattle.wat_lexer.specs.Laws.Bytes.{at_front, at_front_two, begins_at, front_of, idchar_ascii, idchar_no_mark}
pub use Rattle.wat_lexer.specs.Laws.Cases.{by_test, if_either}
pub use Rattle.wat_lexer.specs.Laws.Classes.{class_complete, class_reserved, no_integer}
pub use Rattle.wat_lexer.specs.Laws.Fronts.{front_cut, front_fails, one_cut}
pub use Rattle.wat_lexer.specs.Laws.Hidden.{begins_hidden_is, hidden_count_none}
pub use Rattle.wat_lexer.specs.Laws.Kinds.{close_is, open_is, tokens_of-placed}
pub use Rattle.wat_lexer.specs.Laws.Pieces.{RunUpTo, comment_complete, comment_sound, ends_here, excluded, line_sound, run_sound}
pub use Rattle.wat_lexer.specs.Laws.Strings.{string_complete, string_sound}
pub use Rattle.wat_lexer.specs.Number.{number, up_to}
unfoldable pub use Rattle.wat_lexer.specs.Scan.{behind_spaces}
pub use Rattle.wat_lexer.specs.Sight.{annotation_name, begins_annotation_group, is_standard}
unfoldable pub use Rattle.wat_lexer.specs.Sight.{visible}
pub use Rattle.wat_lexer.specs.View.{FailsAt, IfFault, VisibleFrom, entry_of, found_tok, is_annotation_kind, no_skips, own_number, skip, skip_in_front, skipping}

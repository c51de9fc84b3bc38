-- The names that files of this crate and of the crates above it import most, passed on from one place.
-- Declares nothing.
pub use Rattle.std.proofs.lemmas.Bool.{eqb-true, le-ltb, not-true, or_from, or_parts}
pub use Rattle.std.proofs.lemmas.Bool.Decides.{nat_tests}
pub use Rattle.std.proofs.lemmas.List.{length-drop, length-map}
pub use Rattle.std.proofs.lemmas.Slice.Eq.{bytes_eq-Decides}
pub use Rattle.std.proofs.lemmas.Str.{IsCharBoundary-after_ascii}
pub use Rattle.std.specs.Char.{digit_char, digit_value}
pub use Rattle.std.specs.Cmp.{nat_cmp_is}
pub use Rattle.std.specs.List.{list_all, list_any, prefix_len}
pub use Rattle.std.specs.Ordering.{ordering_then}
pub use Rattle.std.specs.Str.{IsCharBoundary, IsUtf8, IsValidUpTo}
pub use Rattle.wat_tokens.specs.Prelude.{nat_cmp, offset_of, Fault, Costs, tokens_alone, SameSettings, a_rparen, Refuses, ReadsAt, after, either, starts, begins_word, ends, second, plain}
pub use Rattle.wat_tokens.specs.Laws.Prelude.{eq-or-lt_of_le, agree_below_at, cases_lt, ltb-true, nat_list_cmp_total, append-nil, get_or-map, first_so, second_so, bytes_decides, ordering_reverse, bytes_eq, Ordering, Equal, Greater, Less, by_test, Annotation, Id, Keyword, LParen, RParen, Token, placed, Error, Memory, Carries, bind_some, some_is, one_reads, Read, bind, some_of, State}
pub use Rattle.wat_tokens.specs.Bytes.{between, is_idchar, is_space}
pub use Rattle.wat_tokens.specs.Counts.{Counted}
pub use Rattle.wat_tokens.specs.Cut.{IsCut}
pub use Rattle.wat_tokens.specs.Kind.{a_word}
unfoldable pub use Rattle.wat_tokens.specs.Kind.{past_front}
pub use Rattle.wat_tokens.specs.Token.{Entry, Integer, Placed, String, is_close, is_open, tokens_of}
pub use Rattle.wat_tokens.specs.View.{no_entry, placed_of}
pub use Rattle.wat_mnemonics.specs.Halves.{IsFew, IsWithin}
pub use Rattle.wat_mnemonics.specs.Laws.TableIndex.{words_length, words_rise}
pub use Rattle.wat_mnemonics.specs.Laws.Word.{op_of_word}
pub use Rattle.wat_mnemonics.specs.Mnemonic.{mnemonic}
pub use Rattle.wat_mnemonics.specs.Opcodes.{bytes}
pub use Rattle.wat_mnemonics.specs.Ops.{op_opcode, op_row, op_word}
pub use Rattle.wat_mnemonics.specs.Order.{cmp, first, rises, words}
pub use Rattle.wat_mnemonics.specs.Scalar.{scalar_opcode}
pub use Rattle.wat_mnemonics.specs.Table.{all_ops, op_count}
pub use Rattle.wat_mnemonics.specs.TableIndex.{op_of_row, table_index}
pub use Rattle.wat_mnemonics.specs.Vector.{vector_opcode}
pub use Rattle.wat_mnemonics.specs.Word.{first_with, mnemonic_reads}
unfoldable pub use Rattle.wat_mnemonics.specs.Word.{mnemonic_of}

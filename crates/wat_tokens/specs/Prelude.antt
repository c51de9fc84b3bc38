-- The names that files of this crate and of the crates above it import most, passed on from one place.
-- Declares nothing.
pub use Rattle.std.specs.Ordering.{is_lt, nat_cmp}
pub use Rattle.std.specs.declared.cmp.Ordering.{Ordering}
pub use Rattle.std.specs.declared.cmp.Ordering.TheVariants.{Greater, Less}
pub use Rattle.wat_lexer.specs.Prelude.{both_true, bytes_eq, offset_of, Keyword, LParen, RParen, Token}
unfoldable pub use Rattle.wat_lexer.specs.Prelude.{hidden_count, visible_tokens}
pub use Rattle.wat_lexer.specs.declared.fault.Fault.{Fault}
pub use Rattle.wat_lexer.specs.declared.fault.Fault.TheVariants.{Memory}
pub use Rattle.wat_tokens.specs.Adding.{add_read}
pub use Rattle.wat_tokens.specs.Asks.{Alike, Asks, also, ask, everything, nothing}
pub use Rattle.wat_tokens.specs.Copies.{Copies}
pub use Rattle.wat_tokens.specs.Cost.{Cost, Costs, tokens_alone, turns_too, words_too}
pub use Rattle.wat_tokens.specs.Counts.{Carries, Quiet, SameSettings}
unfoldable pub use Rattle.wat_tokens.specs.Counts.{Counts}
pub use Rattle.wat_tokens.specs.Floats.{none}
pub use Rattle.wat_tokens.specs.Groups.{group, paren, turn}
pub use Rattle.wat_tokens.specs.Index.{IndexModel, at_index, identifier, index, index_view, name_of}
pub use Rattle.wat_tokens.specs.Integers.{integer, signed, unsigned}
pub use Rattle.wat_tokens.specs.Joined.{joined, joined_behind}
pub use Rattle.wat_tokens.specs.Kind.{Kind, a_lparen, a_rparen, fits, next_is}
pub use Rattle.wat_tokens.specs.Lookup.{in_front}
pub use Rattle.wat_tokens.specs.Many.{Extends, after_front, many}
unfoldable pub use Rattle.wat_tokens.specs.ManySpells.{many_at, many_reads}
pub use Rattle.wat_tokens.specs.NameAnnotation.{at_name, begins_name}
unfoldable pub use Rattle.wat_tokens.specs.NameAnnotation.{name_annotation}
pub use Rattle.wat_tokens.specs.Parens.{closes, opens}
pub use Rattle.wat_tokens.specs.Parses.{NotHeapless, Refuses}
pub use Rattle.wat_tokens.specs.PartSpells.{with_rest}
pub use Rattle.wat_tokens.specs.Parts.{after_word, flag, made, made_where, one, opt, seq, where_else, word}
pub use Rattle.wat_tokens.specs.Production.{Production, Read, bind, some_of}
pub use Rattle.wat_tokens.specs.Reads.{Call, Reads, ReadsAt}
pub use Rattle.wat_tokens.specs.Restated.{restated}
pub use Rattle.wat_tokens.specs.Settled.{settled}
pub use Rattle.wat_tokens.specs.Spelled.{Spelled}
pub use Rattle.wat_tokens.specs.State.{State, annotated}
pub use Rattle.wat_tokens.specs.Strings.{string, text}
pub use Rattle.wat_tokens.specs.Test.{Question, Test, after, always, answer, at_group, at_id, at_integer, at_listed, at_more, at_word, both, denies_end, either, either_test, opposite, run, second_word, sight, starts}
pub use Rattle.wat_tokens.specs.Tests.{begins_word, ends, look_up, more, second, word_in}
pub use Rattle.wat_tokens.specs.Views.{ViewOf, heapless_option, holding, no_items, option_view, owning, plain}
pub use Rattle.wat_tokens.specs.Visible.{IsPlaceOf, behind_one, rest_by, seen, shown}
unfoldable pub use Rattle.wat_tokens.specs.Visible.{closing, placed_behind}
pub use Rattle.wat_tokens.specs.Whole.{TextSpells}

-- The names of the prelude, and the laws, for proofs and laws.
-- Declares nothing.
pub use Rattle.std.proofs.Math.Nat.{eq-or-lt_of_le}
pub use Rattle.std.proofs.Math.Pow.{pow_mono}
pub use Rattle.std.proofs.lemmas.Bool.{agree_below_at, false≢true, ltb-true}
pub use Rattle.std.proofs.lemmas.Cmp.{nat_list_cmp_total}
pub use Rattle.std.proofs.lemmas.List.{append-nil, append_cancel_right, get_or_past, map_push}
pub use Rattle.std.specs.Cmp.{second_so, unsigned_Decides}
pub use Rattle.std.specs.Cmp.Lexicographic.{bytes_decides}
pub use Rattle.std.specs.Ordering.{ordering_reverse}
pub use Rattle.std.specs.declared.cmp.Ordering.TheVariants.{Equal}
pub use Rattle.wat_lexer.specs.Laws.Prelude.{cases_lt, get_or-map, first_so, by_test, tokens_of-placed, Annotation, Id, placed}
pub use Rattle.wat_lexer.specs.declared.fault.Error.{Error}
pub use Rattle.wat_tokens.specs.Prelude.{both_true, is_lt, bytes_eq, Ordering, Greater, Less, Keyword, LParen, RParen, Token, Memory, add_read, Carries, Quiet, group, identifier, joined, joined_behind, begins_name, NotHeapless, with_rest, Production, Read, bind, some_of, State, Test, at_listed, run, look_up, more, word_in, ViewOf, no_items}
unfoldable pub use Rattle.wat_tokens.specs.Prelude.{hidden_count, Counts, many_reads, name_annotation, placed_behind}
pub use Rattle.wat_tokens.specs.Adding.{add_all}
pub use Rattle.wat_tokens.specs.FollowedSpells.{followed_spells}
pub use Rattle.wat_tokens.specs.Joined.{all_of, join}
pub use Rattle.wat_tokens.specs.Laws.Cost.{costs_then, quiet_costs}
pub use Rattle.wat_tokens.specs.Laws.Counts.{carried, carries_of, counts_within}
pub use Rattle.wat_tokens.specs.Laws.Error.{by_fault}
pub use Rattle.wat_tokens.specs.Laws.Filled.{extends_then}
pub use Rattle.wat_tokens.specs.Laws.Loops.{loop_ends, loop_fails, loop_goes_on, not_heapless}
pub use Rattle.wat_tokens.specs.Laws.Many.{adding_ends, adding_fails, adding_goes_on, adding_takes}
pub use Rattle.wat_tokens.specs.Laws.Numbers.{apart, doubles}
pub use Rattle.wat_tokens.specs.Laws.Parens.{balanced_both}
pub use Rattle.wat_tokens.specs.Laws.Production.{bind_some, by_option, by_read, none_is_not, some_is}
pub use Rattle.wat_tokens.specs.Laws.Refuses.{refused_read}
pub use Rattle.wat_tokens.specs.ManySpells.{many_spells}
pub use Rattle.wat_tokens.specs.Once.{HasOneReading}
pub use Rattle.wat_tokens.specs.Outcome.{ReadsPrefix, TakesPrefix}
pub use Rattle.wat_tokens.specs.Parens.{AreBalanced, nest}
pub use Rattle.wat_tokens.specs.Parses.{Accepts, Gives}
pub use Rattle.wat_tokens.specs.PartSpells.{one_reads, opt_spells}
pub use Rattle.wat_tokens.specs.Production.{Front, option_of}
pub use Rattle.wat_tokens.specs.Tests.{as_keyword, begins_id}

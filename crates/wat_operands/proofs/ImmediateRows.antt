-- Sample texts as tokens, and the operands that are read from them.
use Rattle.std.specs.Prelude.{◌≡◌, true, false, List, [], ◌∷◌, ◌++◌, Some, None, refl, codes}
use Rattle.wat_operands.specs.Prelude.{name, Token, Keyword, Id, in_parens, Spelled, spelled_whole, many_at, many_reads, read, lane_arg, lane_access, MemArgModel, array, target, offset_or_0, align, align_or, mem_arg, atomic_mem_arg, field, past_front, ordering, ordered, index_or_0, index_pair, init, copy, two, four, wide_const, v128_const}
use Rattle.wat_operands.specs.ImmediateRows.{Accesses, AtomicAccesses, LaneAccesses, TableInits, TableCopies, Vector, OrderedTable}

abbrev align_word : List Token
align_word = Keyword (codes "align=2") ∷ []

align_is_2 : align.reads align_word ≡ Some (2, [])
unfolding align field past_front read
align_is_2 = align.complete 2 align_word [] ((Keyword (codes "align=2"), refl, refl), (1, refl))

abbrev in_array : List Token
in_array = in_parens (Keyword (codes "type") ∷ Id (codes "a") ∷ []) ++ Keyword (codes "offset=1") ∷ align_word

abbrev access_in_array : MemArgModel
access_in_array = record { target = array (name (codes "a")); offset = 1; align = 2; ordering = None }

array_access : Spelled (mem_arg 4) in_array access_in_array
unfolding mem_arg target offset_or_0 align_or field past_front read
array_access = spelled_whole (mem_arg 4) in_array access_in_array (rw align_is_2 refl)

pub accesses : Accesses
unfolding mem_arg target index_or_0 offset_or_0 align_or field past_front read
accesses = (array_access, spelled_whole (mem_arg 4) _ _ refl)

pub atomic_accesses : AtomicAccesses
unfolding atomic_mem_arg mem_arg target index_or_0 offset_or_0 align_or align field past_front ordering many_at many_reads read
atomic_accesses = (spelled_whole (atomic_mem_arg 4 true) _ _ refl, spelled_whole (atomic_mem_arg 4 false) _ _ refl)

pub lane_accesses : LaneAccesses
unfolding lane_access lane_arg mem_arg target index_or_0 offset_or_0 align_or align field past_front many_at many_reads read
lane_accesses = (spelled_whole (lane_access 1) _ _ refl, spelled_whole lane_arg _ _ refl)

pub table_inits : TableInits
unfolding init index_pair many_at many_reads read
table_inits = (spelled_whole init _ _ refl, spelled_whole init _ _ refl)

pub table_copies : TableCopies
unfolding copy index_pair many_at many_reads read
table_copies = (spelled_whole copy _ _ refl, spelled_whole copy _ _ refl)

pub vector : Vector
unfolding v128_const wide_const four two many_at many_reads read
vector = (_, spelled_whole v128_const _ _ refl, refl)

pub ordered_table : OrderedTable
unfolding ordering index_or_0 many_at many_reads read
ordered_table = spelled_whole (ordered index_or_0) _ _ refl

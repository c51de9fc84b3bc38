-- Lists of values that are read one after the other.
use Rattle.std.specs.Prelude.{◌≡◌, ◌≤◌, ℕ, List, [], map}
use Rattle.std.proofs.lemmas.List.{map-id}
use Rattle.wat_fields.specs.Prelude.{filled_behind, Token, more, at_more, Production, many_reads, joined, data_val_consumes, local_group_consumes, vector_consumes, item_consumes}
use Rattle.wat_tokens.specs.Joined.{joined_behind}
use Rattle.wat_tokens.specs.Laws.Joined.{joined_reads}
use Rattle.wat_fields.specs.Laws.RefFuncs.{ref_func_consumes}

-- the view of bytes, one by one
pub bytes_again : (xs : List ℕ) → map (λ b. b) xs ≡ xs
bytes_again xs = map-id xs

-- the bytes of one number, appended to others
pub ruleset bytes_put = (bytes_again, filled_behind)

-- parts of groups, to the end
pub joined_to_end : {A : Type 0} (g : Production (List A)) (consumes : 1 ≤ g.least) (t : List Token) → joined_behind [] (many_reads more g t) ≡ (joined at_more g consumes).reads t
joined_to_end g consumes t = joined_reads at_more g consumes t

-- the bytes of numbers, or the locals of groups, one after the other
pub ruleset joins = (joined_to_end, joined_reads, local_group_consumes, vector_consumes, bytes_again)

-- each value of a list takes a token
pub ruleset consumes = (data_val_consumes, item_consumes, ref_func_consumes)

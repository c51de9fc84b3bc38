use Rattle.std.specs.Prelude.{◌≡◌, length, map, All, ◌≤◌, ◌+◌}
use Rattle.wat_links.specs.Prelude.{Carries, SameSettings, after_front, many_reads, more}
use Rattle.wat_tokens.specs.Cost.{Costs}
use Rattle.wat_fields.proofs.spanned.all_spanned.Given as goal

abbrev pub invariant-values : goal.invariant-values
invariant-values g l = record {
  exact : after_front (map g.S.Spanned.view.of l.found.items) (many_reads more g.S.Spanned.grammar l.parser.left) ≡ many_reads more g.S.Spanned.grammar l.fn.parser.left;
  counts : Carries l.fn.parser l.parser;
  turned : l.parser.turns + l.fn.parser.taken ≤ l.fn.parser.turns + l.parser.taken;
  cost : Costs g.S.Spanned.cost l.fn.parser l.parser;
  settings : SameSettings l.fn.parser l.parser;
  spans : All (g.S.Spanned.keeps l.fn.parser.tracks) l.found.items;
}

abbrev pub decreases-values : goal.decreases-values
decreases-values g l = length l.parser.left

use Rattle.std.specs.Prelude.{◌+◌, ◌≤◌, List, length}
use Rattle.wat_core.specs.Prelude.{IsField, IsWithin, Tells}
use Rattle.wat_core.specs.declared.module_group.Group.{Group}
use Rattle.wat_core.proofs.Telling.{Before}
use Rattle.wat_core.proofs.wrong_fields.check_all.Given as goal

abbrev pub invariant-groups : goal.invariant-groups
invariant-groups g l = record {
  within : IsWithin l.text l.parser;
  few : l.found.groups + length l.parser.rest ≤ length l.fn.parser.rest;
  order : l.found.count ≤ l.found.groups;
  told : (gs : List Group) × Before (length l.text) l.fn.parser.rest l.parser.rest gs × Tells (IsField g.T.Parse.grammar) l.text l.most gs l.found;
}

abbrev pub decreases-groups : goal.decreases-groups
decreases-groups g l = length l.parser.rest

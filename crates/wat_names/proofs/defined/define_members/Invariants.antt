use Rattle.std.specs.Prelude.{◌≡◌, ◌++◌, take}
use Rattle.wat_scopes.specs.Known.{names}
use Rattle.wat_scopes.specs.Spaces.{space_view}
use Rattle.wat_types.specs.Struct.{members_view}
use Rattle.wat_names.specs.Defined.{members_in}
use Rattle.wat_names.proofs.defined.define_members.Given as goal

abbrev pub invariant-loop-member : goal.invariant-loop-member
invariant-loop-member l = names l.out.items ≡ names l.fn.out.items ++ members_in (space_view l.space) (members_view (take l.member-index l.members))

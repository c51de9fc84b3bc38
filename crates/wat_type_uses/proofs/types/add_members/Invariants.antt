use Rattle.std.specs.Prelude.{◌≡◌, ◌++◌, take}
use Rattle.wat_scopes.specs.Known.{names}
use Rattle.wat_types.specs.Struct.{members_view}
use Rattle.wat_type_uses.specs.Types.{members_uses}
use Rattle.wat_type_uses.proofs.types.add_members.Given as goal

abbrev pub invariant-loop-member : goal.invariant-loop-member
invariant-loop-member l = names l.out.items ≡ names l.fn.out.items ++ members_uses (members_view (take l.member-index l.members))

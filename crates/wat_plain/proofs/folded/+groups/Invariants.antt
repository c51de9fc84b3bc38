use Rattle.std.specs.Prelude.{◌+◌, ◌*◌}
use Rattle.wat_plain.proofs.folded.+groups.Given as goal

-- the depth that is left, and in front of its unit how far the function is from `read_groups`
abbrev pub decreases-read_groups : goal.decreases-read_groups
decreases-read_groups l = 3 * l.most

abbrev pub decreases-read_group : goal.decreases-read_group
decreases-read_group l = 3 * l.most + 2

abbrev pub decreases-read_enclosed : goal.decreases-read_enclosed
decreases-read_enclosed l = 3 * l.most + 1

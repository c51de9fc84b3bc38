use Rattle.std.specs.Prelude.{◌+◌, ◌*◌}
use Rattle.wat_plain.proofs.reading.+reading.Given as goal

-- the depth that is left, and in front of its unit how far the function is from `read_at`
abbrev pub decreases-read_at : goal.decreases-read_at
decreases-read_at l = 8 * l.most

abbrev pub decreases-read_list : goal.decreases-read_list
decreases-read_list l = 8 * l.most + 7

abbrev pub decreases-read_hinted : goal.decreases-read_hinted
decreases-read_hinted l = 8 * l.most + 1

abbrev pub decreases-read_plain : goal.decreases-read_plain
decreases-read_plain l = 8 * l.most + 1

abbrev pub decreases-read_group : goal.decreases-read_group
decreases-read_group l = 8 * l.most + 6

abbrev pub decreases-read_block : goal.decreases-read_block
decreases-read_block l = 8 * l.most + 2

abbrev pub decreases-read_folded : goal.decreases-read_folded
decreases-read_folded l = 8 * l.most + 2

abbrev pub decreases-read_enclosed : goal.decreases-read_enclosed
decreases-read_enclosed l = 8 * l.most + 1

abbrev pub decreases-read_arm : goal.decreases-read_arm
decreases-read_arm l = 8 * l.most + 2

abbrev pub decreases-read_if : goal.decreases-read_if
decreases-read_if l = 8 * l.most + 5

abbrev pub decreases-read_other : goal.decreases-read_other
decreases-read_other l = 8 * l.most + 4

abbrev pub decreases-read_else : goal.decreases-read_else
decreases-read_else l = 8 * l.most + 3

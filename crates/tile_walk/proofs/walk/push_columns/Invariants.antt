use Rattle.std.proofs.Common.{vec_len, vec_capacity}
use Rattle.std.specs.Int.{int_gap}
use Rattle.tile_walk.proofs.Walking.{IsWalked}
use Rattle.tile_walk.proofs.walk.push_columns.Given as goal

abbrev pub decreases-loop-i : goal.decreases-loop-i
decreases-loop-i l = int_gap l.i l.last.i

abbrev pub invariant-loop-i : goal.invariant-loop-i
invariant-loop-i l =
    IsWalked l.fn.profile l.fn.s l.fn.out.items l.out.items l.i l.entry l.border.row l.border.above
    (vec_len l.out) (vec_capacity l.out)

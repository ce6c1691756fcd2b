use Rattle.std.proofs.Common.{length}
use Rattle.std.specs.Int.{int_max}
use Rattle.cell_map.proofs.CellBounds.{Tells}
use Rattle.cell_map.proofs.columns.last_bound.Given as goal

-- the vertices that were passed over bound no cell
abbrev pub invariant-loop-last : goal.invariant-loop-last
invariant-loop-last l = Tells int_max l.wall l.above l.below l.vertices l.rest

abbrev pub decreases-loop-last : goal.decreases-loop-last
decreases-loop-last l = length l.rest

use Rattle.std.proofs.Common.{length}
use Rattle.std.specs.Int.{int_min}
use Rattle.cell_map.proofs.CellBounds.{Tells}
use Rattle.cell_map.proofs.columns.first_bound.Given as goal

-- the vertices that were passed over bound no cell
abbrev pub invariant-loop-first : goal.invariant-loop-first
invariant-loop-first l = Tells int_min l.wall l.above l.below l.vertices l.rest

abbrev pub decreases-loop-first : goal.decreases-loop-first
decreases-loop-first l = length l.rest

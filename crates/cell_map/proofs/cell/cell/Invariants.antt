use Rattle.std.proofs.Common.{◌≡◌, take}
use Rattle.grid_core.specs.Places.{cell_between}
use Rattle.cell_map.proofs.cell.cell.Given as goal

-- the cell by the vertices so far
abbrev pub invariant-loop-h : goal.invariant-loop-h
invariant-loop-h l = l.cell ≡ cell_between 256 (take l.h-index l.vertices) l.at l.fn.above l.fn.below

use Rattle.std.proofs.Common.{◌≤◌, ◌-◌, length}
use Rattle.cell_map.proofs.ColumnOrder.{LiesAt}
use Rattle.cell_map.proofs.columns.count_first_outside.Given as goal

-- the last vertex so far is in the first one's column, on the same side of the cell
abbrev pub invariant-loop-count : goal.invariant-loop-count
invariant-loop-count l =
    record {
      some : 1 ≤ l.count;
      within : l.count ≤ length l.vertices;
      alike : LiesAt l.above l.below l.side l.first.x l.vertices (l.count - 1);
    }

abbrev pub decreases-loop-count : goal.decreases-loop-count
decreases-loop-count l = length l.vertices - l.count

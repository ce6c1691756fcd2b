use Rattle.std.proofs.Common.{◌≤◌, ◌-◌, length}
use Rattle.cell_map.proofs.ColumnOrder.{LiesAt}
use Rattle.cell_map.proofs.columns.count_last_outside.Given as goal

-- the first vertex so far is in the last one's column, on the same side of the cell
abbrev pub invariant-loop-count : goal.invariant-loop-count
invariant-loop-count l =
    record {
      some : 1 ≤ l.count;
      within : l.count ≤ length l.vertices;
      alike : LiesAt l.above l.below l.side l.last.x l.vertices (length l.vertices - l.count);
    }

abbrev pub decreases-loop-count : goal.decreases-loop-count
decreases-loop-count l = length l.vertices - l.count

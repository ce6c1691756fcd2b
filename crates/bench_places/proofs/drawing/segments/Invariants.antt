use Rattle.std.proofs.Common.{◌+◌, ◌≤◌, length}
use Rattle.std.specs.List.Sorted.{IsStrictlySortedBy}
use Rattle.grid_core.specs.LiveList.{names}
use Rattle.grid_core.specs.Name.{label_cmp}
use Rattle.bench_places.proofs.Rising.{AreBelow}
use Rattle.bench_places.proofs.drawing.segments.Given as goal

-- the names so far rise, and are below the next
abbrev pub invariant-loop-serial : goal.invariant-loop-serial
invariant-loop-serial l = record {
  rising : IsStrictlySortedBy label_cmp (names l.segments.items);
  below : AreBelow (l.serial + 1) l.segments.items;
  few : length l.segments.items ≤ l.serial;
}

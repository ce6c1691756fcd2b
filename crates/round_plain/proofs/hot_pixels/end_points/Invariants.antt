use Rattle.std.proofs.Common.{◌≡◌, ◌^◌, take}
use Rattle.std.specs.List.{All}
use Rattle.grid_core.specs.Vector.{IsWithin}
use Rattle.grid_core.specs.Segment.{IsSegment}
use Rattle.grid_core.specs.Rounding.{end_points}
use Rattle.round_plain.proofs.hot_pixels.end_points.Given as goal

-- the ends so far, all of them within 2^30
abbrev pub invariant-loop-s : goal.invariant-loop-s
invariant-loop-s l = record {
  value : l.ends.items ≡ end_points (take l.s-index l.segments);
  within : All (IsWithin (2 ^ 30)) l.ends.items;
  kept : All (IsSegment (2 ^ 30)) (take l.s-index l.segments);
}

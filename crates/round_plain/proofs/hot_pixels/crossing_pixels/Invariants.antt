use Rattle.std.proofs.Common.{◌≡◌, ◌^◌, ◌++◌, drop}
use Rattle.std.specs.List.{All}
use Rattle.grid_core.specs.Vector.{IsWithin}
use Rattle.grid_core.specs.Rounding.{crossing_pixels}
use Rattle.round_plain.proofs.hot_pixels.crossing_pixels.Given as goal

-- the pixels so far and those of the segments that are left are all
abbrev pub invariant-loop-i : goal.invariant-loop-i
invariant-loop-i l = record {
  value : l.found.items ++ crossing_pixels (drop l.i l.segments) ≡ crossing_pixels l.segments;
  within : All (IsWithin (2 ^ 30)) l.found.items;
}

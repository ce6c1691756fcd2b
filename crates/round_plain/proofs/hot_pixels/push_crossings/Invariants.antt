use Rattle.std.proofs.Common.{◌≡◌, ◌^◌, ◌++◌, take}
use Rattle.std.specs.Prelude.{filter_map}
use Rattle.std.specs.List.{All}
use Rattle.grid_core.specs.Vector.{IsWithin}
use Rattle.grid_core.specs.Rounding.{crossing_pixel}
use Rattle.round_plain.proofs.hot_pixels.push_crossings.Given as goal

-- the crossings with the others so far
abbrev pub invariant-loop-t : goal.invariant-loop-t
invariant-loop-t l = record {
  value : l.found.items ≡ l.fn.found.items ++ filter_map (crossing_pixel l.s)
      (take l.t-index l.others);
  within : All (IsWithin (2 ^ 30)) l.found.items;
}

use Rattle.std.proofs.Common.{◌≡◌, ◌-◌, ◌≤◌, [], length, take}
use Rattle.std.specs.List.{filter}
use Rattle.hot_tile.specs.Steps.{meets_key}
use Rattle.hot_tile.proofs.steps.first_met.Given as goal

abbrev pub invariant-pixels : goal.invariant-pixels
invariant-pixels l =
    record {
      within : l.n ≤ length l.pixels;
      before : filter (meets_key l.frame l.u) (take l.n l.pixels) ≡ [];
    }

abbrev pub decreases-pixels : goal.decreases-pixels
decreases-pixels l = length l.pixels - l.n

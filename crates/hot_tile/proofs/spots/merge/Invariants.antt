use Rattle.std.proofs.Common.{◌≤◌, length}
use Rattle.hot_tile.proofs.SpotLaws.{IsMerging}
use Rattle.hot_tile.proofs.spots.merge.Given as goal

abbrev pub invariant-loop-own : goal.invariant-loop-own
invariant-loop-own l =
    record {
      within : l.i ≤ length l.olds;
      so_far : IsMerging l.olds l.owns l.i l.own-index l.spots.items l.fresh.items;
    }

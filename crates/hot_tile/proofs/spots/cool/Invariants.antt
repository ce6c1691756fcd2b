use Rattle.std.proofs.Common.{◌≤◌, length}
use Rattle.hot_tile.proofs.CoolLaws.{IsCooling}
use Rattle.hot_tile.proofs.spots.cool.Given as goal

abbrev pub invariant-loop-own : goal.invariant-loop-own
invariant-loop-own l =
    record {
      within : l.i ≤ length l.olds;
      so_far : IsCooling l.olds l.owns l.i l.own-index l.spots.items l.cold.items;
    }

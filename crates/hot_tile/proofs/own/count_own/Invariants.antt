use Rattle.std.proofs.Common.{◌≡◌, take}
use Rattle.hot_tile.specs.Own.{own_spots}
use Rattle.hot_tile.proofs.own.count_own.Given as goal

abbrev pub invariant-loop-t : goal.invariant-loop-t
invariant-loop-t l = l.own.items ≡ own_spots l.frame (take l.t-index l.segments) l.s

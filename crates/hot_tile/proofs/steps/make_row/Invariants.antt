use Rattle.std.proofs.Common.{◌≡◌, [], take}
use Rattle.hot_tile.specs.Spots.{keys}
use Rattle.hot_tile.specs.Steps.{grown_row}
use Rattle.hot_tile.proofs.steps.make_row.Given as goal

abbrev pub invariant-loop-spot : goal.invariant-loop-spot
invariant-loop-spot l = l.row.items ≡ grown_row l.frame l.s [] (keys (take l.spot-index l.spot-items))

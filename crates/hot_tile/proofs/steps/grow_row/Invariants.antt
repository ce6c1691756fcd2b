use Rattle.std.proofs.Common.{◌≡◌, take}
use Rattle.hot_tile.specs.Steps.{grown_row}
use Rattle.hot_tile.proofs.steps.grow_row.Given as goal

abbrev pub invariant-loop-key : goal.invariant-loop-key
invariant-loop-key l = l.row.items ≡ grown_row l.frame l.u l.old (take l.key-index l.pixels)

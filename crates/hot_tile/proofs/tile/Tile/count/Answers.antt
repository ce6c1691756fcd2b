use Rattle.std.proofs.Common.{subst}
use Rattle.hot_tile.specs.Tile.{IsTileContent}
use Rattle.hot_tile.proofs.tile.Tile.count.Goals as goal

pub returns-clause-kept : goal.returns-clause-kept
returns-clause-kept c = subst IsTileContent c.self.view_is c.self.invariant.content

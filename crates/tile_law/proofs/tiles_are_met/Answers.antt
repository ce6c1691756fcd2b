use Rattle.tile_law.proofs.MetTiles.{tiles_are_met}
use Rattle.tile_law.proofs.tiles_are_met.Goals as goal

pub returns : goal.returns
returns c =
    tiles_are_met c.args.profile.now c.side.ensures.kept.some_side c.args.s.now c.p.ensures.kept.ordered

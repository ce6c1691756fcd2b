use Rattle.tile_law.proofs.TileBoxes.{meets_tile_of}
use Rattle.tile_law.proofs.pixels_lie_in_met_tiles.Goals as goal

pub returns : goal.returns
returns c =
    meets_tile_of c.args.profile.now c.side.ensures.kept.some_side c.args.s.now

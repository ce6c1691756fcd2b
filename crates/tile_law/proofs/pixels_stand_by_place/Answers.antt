use Rattle.tile_law.proofs.AlongTiles.{along_is_by_place}
use Rattle.tile_law.proofs.pixels_stand_by_place.Goals as goal

pub returns : goal.returns
returns c =
    along_is_by_place c.args.s.now c.p.ensures.kept.ordered

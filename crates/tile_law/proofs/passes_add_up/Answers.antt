use Rattle.tile_law.proofs.TileSums.{passes_add_up}
use Rattle.tile_law.proofs.passes_add_up.Goals as goal

pub returns : goal.returns
returns c =
    passes_add_up c.args.profile.now c.side.ensures.kept.some_side c.args.segments.now

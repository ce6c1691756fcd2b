use Rattle.tile_law.proofs.Locality.{parts_are_local}
use Rattle.tile_law.proofs.parts_are_local.Goals as goal

pub returns : goal.returns
returns c =
    parts_are_local c.args.profile.now c.side.ensures.kept.some_side c.args.segments.now

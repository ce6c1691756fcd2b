use Rattle.tile_law.proofs.Reach.{met_tiles_are_in_reach}
use Rattle.tile_law.proofs.met_tiles_are_in_reach.Goals as goal

pub returns : goal.returns
returns c = met_tiles_are_in_reach c.args.profile.now c.side.ensures.kept c.args.s.now

use Rattle.grid_core.proofs.RoundingMembers.{hot_is_counted}
use Rattle.grid_core.proofs.laws.hot_pixels_are_counted.Goals as goal

pub returns : goal.returns
returns c = hot_is_counted c.args.segments.now

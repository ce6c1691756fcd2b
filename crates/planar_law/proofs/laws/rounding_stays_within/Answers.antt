use Rattle.planar_law.proofs.Within.{hot_within}
use Rattle.planar_law.proofs.laws.rounding_stays_within.Goals as goal

pub returns : goal.returns
returns c = hot_within c.args.segments.now

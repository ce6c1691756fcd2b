use Rattle.planar_law.proofs.Planarity.{planar_of_rounding}
use Rattle.planar_law.proofs.laws.planar_of_rounding.Goals as goal

pub returns : goal.returns
returns c = planar_of_rounding c.args.segments.now

use Rattle.planar_law.proofs.Near.{near_of_route}
use Rattle.planar_law.proofs.laws.near_of_route.Goals as goal

pub returns : goal.returns
returns c = near_of_route c.args.segments.now c.args.s.now

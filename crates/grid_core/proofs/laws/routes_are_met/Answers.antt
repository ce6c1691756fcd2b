use Rattle.grid_core.proofs.RoundingMembers.{route_is_met}
use Rattle.grid_core.proofs.laws.routes_are_met.Goals as goal

pub returns : goal.returns
returns c = route_is_met c.args.segments.now c.args.s.now

use Rattle.grid_core.proofs.RoundingMembers.{edges_are_of_routes}
use Rattle.grid_core.proofs.laws.edges_are_of_routes.Goals as goal

pub returns : goal.returns
returns c = edges_are_of_routes c.args.segments.now

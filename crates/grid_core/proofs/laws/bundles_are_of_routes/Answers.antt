use Rattle.grid_core.proofs.RoundingMembers.{bundle_is_of_routes}
use Rattle.grid_core.proofs.laws.bundles_are_of_routes.Goals as goal

pub returns : goal.returns
returns c = bundle_is_of_routes c.args.segments.now c.args.edge.now

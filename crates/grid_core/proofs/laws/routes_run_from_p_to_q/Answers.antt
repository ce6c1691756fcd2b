use Rattle.grid_core.proofs.RouteEnds.{route_runs_from_p_to_q}
use Rattle.grid_core.proofs.laws.routes_run_from_p_to_q.Goals as goal

pub returns : goal.returns
returns c = route_runs_from_p_to_q c.args.segments.now c.args.s.now c.requires

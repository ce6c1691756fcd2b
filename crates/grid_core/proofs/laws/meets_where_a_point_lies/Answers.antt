use Rattle.grid_core.proofs.MeetingPoint.{meets_where_a_point_lies}
use Rattle.grid_core.proofs.laws.meets_where_a_point_lies.Goals as goal

pub returns : goal.returns
returns c = meets_where_a_point_lies c.args.s.now c.args.area

use Rattle.cell_map.proofs.FirstNames.{first_rise}
use Rattle.cell_map.proofs.tests.rounded.Goals as goal

pub graph-requires-clause-rising : goal.graph-requires-clause-rising
graph-requires-clause-rising g c = first_rise c.args.count c.four-segments.result c.four-segments.ensures

use Rattle.cell_map.proofs.FirstNames.{first_rise}
use Rattle.cell_map.proofs.tests.beside_scan.pictured.Goals as goal

pub drawn-requires-clause-rising : goal.drawn-requires-clause-rising
drawn-requires-clause-rising g c = first_rise c.args.count c.four-segments.result c.four-segments.ensures

use Rattle.std.proofs.Common.{◌-◌}
use Rattle.edge_search.proofs.Searching.{AreHalves}
use Rattle.edge_search.proofs.candidates.first_not_passed.Given as goal

abbrev pub invariant-halves : goal.invariant-halves
invariant-halves l = AreHalves l.node l.at l.pieces l.low l.high

abbrev pub decreases-halves : goal.decreases-halves
decreases-halves l = l.high - l.low

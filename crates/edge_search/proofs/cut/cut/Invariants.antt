use Rattle.std.proofs.Common.{◌-◌}
use Rattle.edge_search.proofs.Cutting.{IsCut}
use Rattle.edge_search.proofs.cut.cut.Given as goal

abbrev pub decreases-loop-first : goal.decreases-loop-first
decreases-loop-first l = l.end - l.first

-- the nodes that are left, and the pieces so far
abbrev pub invariant-loop-first : goal.invariant-loop-first
invariant-loop-first l = IsCut l.strip l.e l.fn.found.items l.found.items l.first l.end l.width

use Rattle.std.specs.Prelude.{unsigned_abs}
use Rattle.edge_search.proofs.Climbing.{HasClimbed}
use Rattle.edge_search.proofs.search.EdgeSearch.nearest.Given as goal

-- the search has come from the leaf to the node
abbrev pub invariant-nodes : goal.invariant-nodes
invariant-nodes l = HasClimbed l.self.strip l.self.edges l.pieces l.at l.leaf l.node l.nearest

abbrev pub decreases-nodes : goal.decreases-nodes
decreases-nodes l = unsigned_abs l.node

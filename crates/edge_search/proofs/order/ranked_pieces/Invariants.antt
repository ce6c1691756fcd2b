use Rattle.std.proofs.Common.{take}
use Rattle.edge_search.specs.Ranks.{AreRanked}
use Rattle.edge_search.proofs.order.ranked_pieces.Given as goal

-- the pieces of the edges so far
abbrev pub invariant-loop-e : goal.invariant-loop-e
invariant-loop-e l = AreRanked l.strip (take l.e-index l.edges) l.found.items

use Rattle.std.proofs.Common.{◌≡◌, filter, take}
use Rattle.edge_search.proofs.VerticalEdges.{is_vertical}
use Rattle.edge_search.proofs.verticals.verticals_of.Given as goal

-- the vertical ones of the edges so far
abbrev pub invariant-loop-e : goal.invariant-loop-e
invariant-loop-e l = l.verticals.items ≡ filter is_vertical (take l.e-index l.edges)

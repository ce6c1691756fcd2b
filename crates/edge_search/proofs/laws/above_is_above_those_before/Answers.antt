use Rattle.edge_search.proofs.EdgeOrder.{above_those_before}
use Rattle.edge_search.proofs.laws.above_is_above_those_before.Goals as goal

pub returns : goal.returns
returns c = above_those_before c.edges-edges.ensures.kept.planar

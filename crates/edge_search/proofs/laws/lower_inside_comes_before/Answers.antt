use Rattle.edge_search.proofs.EdgeRanks.{lower_inside}
use Rattle.edge_search.proofs.laws.lower_inside_comes_before.Goals as goal

pub returns : goal.returns
returns c = lower_inside c.edges-edges.ensures.kept.planar

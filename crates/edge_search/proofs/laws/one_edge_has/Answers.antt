use Rattle.edge_search.proofs.EdgeRanks.{one_edge_has}
use Rattle.edge_search.proofs.laws.one_edge_has.Goals as goal

pub returns : goal.returns
returns c = one_edge_has c.edges-edges.ensures.kept.planar c.edges-edges.ensures.kept.ordered

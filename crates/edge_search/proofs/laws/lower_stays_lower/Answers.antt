use Rattle.edge_search.proofs.EdgeOrder.{lower_stays_lower}
use Rattle.edge_search.proofs.laws.lower_stays_lower.Goals as goal

pub returns : goal.returns
returns c = lower_stays_lower c.edges-edges.ensures.kept.planar

use Rattle.edge_search.proofs.Enough.{enough_tell_the_place}
use Rattle.edge_search.proofs.laws.enough_tell_the_place.Goals as goal

pub returns : goal.returns
returns c = enough_tell_the_place c.edges-edges.ensures.kept

use Rattle.cell_map.proofs.Refreshing.{refreshed_are_built}
use Rattle.cell_map.proofs.laws.refreshed_are_built.Goals as goal

pub returns : goal.returns
returns c = λ old new differ was is.
    refreshed_are_built c.edges-before.ensures.kept c.edges-after.ensures.kept differ old new was is

-- The graph of every rounding is planar.
use Rattle.std.proofs.Common.{sym, subst, ◌^◌}
use Rattle.planar_law.specs.PlanarEdges.{IsPlanarGraph}
use Rattle.planar_law.proofs.Graphs.{graph_is_planar}
use Rattle.planar_law.proofs.planar_edges.PlanarEdges.of.Goals as goal

pub invariant_of-result : goal.invariant_of-result
invariant_of-result c =
    subst (IsPlanarGraph (2 ^ 30)) (sym c.requires)
    (graph_is_planar (2 ^ 30) c.args.segments.now c.tell_bounds.ensures)

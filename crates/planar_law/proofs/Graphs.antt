-- The graph of a rounding of segments within n is a planar graph within n.

use Rattle.std.proofs.Common.{ℕ, List}
use Rattle.std.specs.Prelude.{All}
use Rattle.grid_core.specs.Segment.{Segment, IsSegment}
use Rattle.grid_core.specs.Edge.{IsEdge}
use Rattle.grid_core.specs.Rounding.{hot, edges}
use Rattle.grid_core.proofs.RoundingMembers.{hot_is_counted, edges_are_of_routes}
use Rattle.planar_law.specs.PlanarEdges.{JoinsVertices, IsPlanarGraph, graph_of}
use Rattle.planar_law.proofs.EdgePieces.{edge_of}
use Rattle.planar_law.proofs.Planarity.{planar_of_rounding}
use Rattle.planar_law.proofs.Within.{all_of_each, hot_within}

pub graph_is_planar : (n : ℕ) (ss : List Segment) → All (IsSegment n) ss
    → IsPlanarGraph n (graph_of ss)
graph_is_planar n ss within =
    record {
      planar = planar_of_rounding ss;
      edges_rise = (edges_are_of_routes ss).in_order;
      vertices_rise = (hot_is_counted ss).in_order;
      ordered = all_of_each IsEdge (edges ss) (λ e c. (edge_of ss e c).ordered);
      joined = all_of_each (JoinsVertices (hot ss)) (edges ss)
          (λ e c. ((edge_of ss e c).hot_a, (edge_of ss e c).hot_b));
      within = hot_within ss n within;
    }

-- The rounding of segments within n is drawn within n: its vertices are the hot pixels, and the ends
-- of its edges are among them.
use Rattle.std.proofs.Common.{ℕ, List}
use Rattle.std.specs.Prelude.{All}
use Rattle.std.proofs.lemmas.List.Elements.{All-map}
use Rattle.grid_core.specs.Vector.{IsWithin}
use Rattle.grid_core.specs.Segment.{Segment, IsSegment}
use Rattle.grid_core.specs.declared.point.Vertex.{Vertex}
use Rattle.grid_core.specs.Rounding.{BundledEdge, hot, edges, vertex_at, bundle, rounding_of}
use Rattle.planar_law.proofs.Graphs.{graph_is_planar}
use Rattle.place_test.specs.Reach.{IsEdgeWithin}
use Rattle.place_test.proofs.Joined.{joined_within}
use Rattle.edge_bundle.specs.Drawn.{IsDrawnWithin}

pub drawn_within : (n : ℕ) (ss : List Segment) → All (IsSegment n) ss → IsDrawnWithin n (rounding_of ss)
drawn_within n ss within =
    let graph = graph_is_planar n ss within in
    record {
      vertices = All-map (λ (v : Vertex). IsWithin n v.at) (vertex_at ss) (hot ss) graph.within;
      edges = All-map (λ (b : BundledEdge). IsEdgeWithin n b.edge)
          (λ e. record { edge = e; names = bundle ss e }) (edges ss)
          (joined_within n (hot ss) (edges ss) graph.within graph.joined);
    }

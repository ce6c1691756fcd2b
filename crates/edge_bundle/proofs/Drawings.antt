-- The vertices and the edges of the rounding of segments are their hot pixels and edges.
use Rattle.std.proofs.Common.{◌≡◌, ◌∙◌, List}
use Rattle.std.proofs.lemmas.List.{map-id}
use Rattle.std.proofs.lemmas.Simd.{map-map}
use Rattle.grid_core.specs.declared.point.Vertex.{Vertex}
use Rattle.grid_core.specs.Edge.{EdgeEnds}
use Rattle.grid_core.specs.Segment.{Segment}
use Rattle.grid_core.specs.Rounding.{BundledEdge, bundle, edges, hot, rounding_of, vertex_at}
use Rattle.edge_bundle.specs.Drawn.{vertices_of, edges_of}

pub vertices_are_hot : (ss : List Segment) → vertices_of (rounding_of ss) ≡ hot ss
vertices_are_hot ss = map-map (λ (w : Vertex). w.at) (vertex_at ss) (hot ss) ∙ map-id (hot ss)

pub edges_are_edges : (ss : List Segment) → edges_of (rounding_of ss) ≡ edges ss
edges_are_edges ss =
    map-map (λ (b : BundledEdge). b.edge) (λ (f : EdgeEnds). record { edge = f; names = bundle ss f }) (edges ss)
    ∙ map-id (edges ss)

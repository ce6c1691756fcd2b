-- The edges and vertices of the picture are those of the rounding.
use Rattle.std.proofs.Common.{◌∙◌, ap, map}
use Rattle.std.proofs.lemmas.List.{map-id}
use Rattle.std.proofs.lemmas.Simd.{map-map}
use Rattle.grid_core.specs.declared.point.Vertex.{Vertex}
use Rattle.grid_core.specs.Edge.{EdgeEnds}
use Rattle.grid_core.specs.Rounding.{SnapRounding, BundledEdge, bundle, edges, hot, vertex_at}
use Rattle.bench_places.proofs.drawing.graph.Goals as goal

pub of-requires : goal.of-requires
of-requires c =
    let ss = c.args.segments.now in
    let e =
    c.in_ok-edges.ensures
    ∙ ap (λ (p : SnapRounding). map (λ (b : BundledEdge). b.edge) p.edges) c.requires
    ∙ map-map (λ (b : BundledEdge). b.edge) (λ (f : EdgeEnds). record { edge = f; names = bundle ss f }) (edges ss)
    ∙ map-id (edges ss) in
    let v =
    c.in_ok-vertices.ensures
    ∙ ap (λ (p : SnapRounding). map (λ (w : Vertex). w.at) p.vertices) c.requires
    ∙ map-map (λ (w : Vertex). w.at) (vertex_at ss) (hot ss)
    ∙ map-id (hot ss) in
    λ i. record { edges = e i; vertices = v i }

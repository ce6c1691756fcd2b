-- The edges and vertices of a rounding, as a planar straight-line graph.
use Rattle.std.specs.Prelude.{ℕ, List, All, Contains}
use Rattle.std.specs.List.Sorted.{IsStrictlySortedBy}
use Rattle.grid_core.specs.declared.point.Point.{Point}
use Rattle.grid_core.specs.Vector.{IsWithin, point_cmp}
use Rattle.grid_core.specs.Segment.{Segment}
use Rattle.grid_core.specs.Edge.{EdgeEnds, IsEdge, edge_cmp}
use Rattle.grid_core.specs.Rounding.{hot, edges}
use Rattle.grid_core.specs.Planar.{IsPlanar}

-- a straight-line graph: its edges and its vertices
pub record Graph : Type 0 where
  pub edges : List EdgeEnds
  pub vertices : List Point

-- both ends of the edge are vertices
abbrev pub JoinsVertices : List Point → EdgeEnds → Type 0
JoinsVertices vs e = Contains vs e.a × Contains vs e.b

-- edges meet at common ends alone, and no vertex lies inside one; edges and vertices rise, each
-- once; each edge joins two vertices, the lesser first; no coordinate is greater than n in size
pub record IsPlanarGraph (n : ℕ) (g : Graph) : Type 0 where
  pub planar : IsPlanar g.edges g.vertices
  pub edges_rise : IsStrictlySortedBy edge_cmp g.edges
  pub vertices_rise : IsStrictlySortedBy point_cmp g.vertices
  pub ordered : All IsEdge g.edges
  pub joined : All (JoinsVertices g.vertices) g.edges
  pub within : All (IsWithin n) g.vertices

-- the graph of the rounding of a list of segments
abbrev pub graph_of : List Segment → Graph
graph_of ss = record { edges = edges ss; vertices = hot ss }

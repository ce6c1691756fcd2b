-- The vertices and edges of a rounding, without counts and bundles, and how far out they lie.
use Rattle.std.specs.Prelude.{ℕ, List, map, All}
use Rattle.grid_core.specs.declared.point.Point.{Point}
use Rattle.grid_core.specs.Vector.{IsWithin}
use Rattle.grid_core.specs.Edge.{EdgeEnds}
use Rattle.grid_core.specs.Rounding.{SnapRounding}
use Rattle.place_test.specs.Reach.{IsEdgeWithin}

-- the vertices of a rounding
abbrev pub vertices_of : SnapRounding → List Point
vertices_of r = map (λ v. v.at) r.vertices

-- the edges of a rounding
abbrev pub edges_of : SnapRounding → List EdgeEnds
edges_of r = map (λ b. b.edge) r.edges

-- no vertex and no edge of a rounding has a coordinate greater than n in size
pub record IsDrawnWithin (n : ℕ) (r : SnapRounding) : Type 0 where
  pub vertices : All (λ v. IsWithin n v.at) r.vertices
  pub edges : All (λ b. IsEdgeWithin n b.edge) r.edges

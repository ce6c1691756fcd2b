-- What follows from the definition of contours, for every list of edges.
use Rattle.std.specs.Prelude.{◌≡◌, ℕ, ◌+◌, ◌-◌, ◌<◌, Some, option_map, List, length, slice_get, Contains}
use Rattle.std.specs.List.{IsDistinct}
use Rattle.grid_core.specs.Edge.{EdgeEnds}
use Rattle.grid_core.specs.Contours.{HalfEdge, half_edge_eq, half_edges, next, walk}

-- no two half-edges have one next
abbrev pub NextIsOneToOne : List EdgeEnds → Type 0
NextIsOneToOne es = (g h : HalfEdge) → Contains (half_edges es) g → Contains (half_edges es) h
    → next es g ≡ next es h
    → g ≡ h

-- the walk from h begins with h, goes from each half-edge to its next, has each once, and h comes
-- after the last
pub record ComesBack (es : List EdgeEnds) (h : HalfEdge) : Type 0 where
  pub begins : slice_get (walk es h) 0 ≡ Some h
  pub goes_on : (k : ℕ) → k + 1 < length (walk es h)
      → slice_get (walk es h) (k + 1) ≡ option_map (next es) (slice_get (walk es h) k)
  pub once : IsDistinct half_edge_eq (walk es h)
  pub comes_back : option_map (next es) (slice_get (walk es h) (length (walk es h) - 1)) ≡ Some h

-- each walk comes back
abbrev pub WalksComeBack : List EdgeEnds → Type 0
WalksComeBack es = (h : HalfEdge) → Contains (half_edges es) h → ComesBack es h

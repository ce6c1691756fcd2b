-- What lies nearest to a query point among some vertices and edges.
use Rattle.std.specs.Prelude.{ℕ, if◌then◌else◌, Option, Some, None, List, filter, slice_get, IfSome}
use Rattle.std.specs.declared.cmp.Ordering.{Ordering}
use Rattle.std.specs.Ordering.{is_lt}
use Rattle.grid_core.specs.declared.point.Point.{Point}
use Rattle.grid_core.specs.declared.place.Place.{Place}
use Rattle.grid_core.specs.declared.place.Place.TheVariants.{Vertex, OnEdge, Between}
use Rattle.grid_core.specs.Vector.{point_eq}
use Rattle.grid_core.specs.Edge.{EdgeEnds, edge_cmp}
use Rattle.grid_core.specs.Places.{query_point, lies_on, least_by, edge_above, edge_below}
use Rattle.place_test.specs.Reach.{IsEdgeWithin}

-- the vertex at a query point, the least edge that has the point, and the nearest edges above and
-- below it
pub record Around : Type 0 where
  pub vertex : Option Point
  pub on : Option EdgeEnds
  pub above : Option EdgeEnds
  pub below : Option EdgeEnds

-- the vertex at q, the first one in the list
abbrev pub vertex_among : List Point → Point → Option Point
vertex_among vs q = slice_get (filter (λ h. point_eq (query_point h) q) vs) 0

-- the least edge that has q
abbrev pub edge_on : List EdgeEnds → Point → Option EdgeEnds
edge_on es q = least_by edge_cmp (filter (lies_on q) es)

-- what lies nearest to q among vertices and edges
abbrev pub around : List Point → List EdgeEnds → Point → Around
around vs es q =
    record {
      vertex = vertex_among vs q;
      on = edge_on es q;
      above = edge_above es q;
      below = edge_below es q;
    }

-- the first of vertex, edge and pair that is there
abbrev pub place_at : Option Point → Option EdgeEnds → Option EdgeEnds → Option EdgeEnds → Place
place_at (Some h) on above below = Vertex h
place_at None (Some e) above below = OnEdge e
place_at None None above below = Between above below

-- the place of a point with this around it
abbrev pub place_around : Around → Place
place_around w = place_at w.vertex w.on w.above w.below

-- the nearest edges above and below have no coordinate greater than n in size
pub record AreNearWithin (n : ℕ) (w : Around) : Type 0 where
  pub above : IfSome w.above (IsEdgeWithin n)
  pub below : IfSome w.below (IsEdgeWithin n)

-- of the first one so far, if there is one, and one more, the first in an order; the one so far where
-- the two tie
abbrev pub first_of : {A : Type 0} → (A → A → Ordering) → Option A → A → Option A
first_of cmp None e = Some e
first_of cmp (Some f) e = if is_lt (cmp e f) then Some e else Some f

-- the vertex at q so far, or else h if it is there
abbrev pub vertex_or : Point → Option Point → Point → Option Point
vertex_or q (Some v) h = Some v
vertex_or q None h = if point_eq (query_point h) q then Some h else None

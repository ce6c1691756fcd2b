-- What holds of every rounding: it is planar, close to its segments, and within their bound.
use Rattle.std.specs.Prelude.{ℕ, List, All, Contains}
use Rattle.grid_core.specs.Vector.{IsWithin}
use Rattle.grid_core.specs.Segment.{Segment, IsSegment}
use Rattle.grid_core.specs.Edge.{EdgeEnds}
use Rattle.grid_core.specs.Rounding.{hot, edges, route_edges}
use Rattle.grid_core.specs.Planar.{IsPlanar, IsNear}

-- two different edges have no point in common but a common end, and no hot pixel's centre lies
-- inside an edge
abbrev pub RoundingIsPlanar : List Segment → Type 0
RoundingIsPlanar ss = IsPlanar (edges ss) (hot ss)

-- each point of an edge of the route of s is within 1/2, in each coordinate, of a point of s
abbrev pub RouteIsNear : List Segment → Segment → Type 0
RouteIsNear ss s = (e : EdgeEnds) → Contains (route_edges ss s) e → IsNear s e

-- where all segments lie within n, all hot pixels do
abbrev pub RoundingStaysWithin : List Segment → Type 0
RoundingStaysWithin ss = (n : ℕ) → All (IsSegment n) ss → All (IsWithin n) (hot ss)

-- The contours of a drawing: walks along its half-edges that have the face on their left.
-- A walk that arrives at v from u goes on to the neighbour of v that follows u clockwise, which is u
-- itself where v has no other neighbour. A contour is such a walk until it is back, and is written
-- from its least half-edge on.
use Rattle.std.specs.Prelude.{ℕ, zero, suc, ℤ, pos, ◌+ℤ◌, int_lt}
use Rattle.std.specs.Prelude.{Bool, not, ◌&&◌, ◌||◌, if◌then◌else◌, Option, Some, None, unwrap_or}
use Rattle.std.specs.Prelude.{List, [], ◌∷◌, ◌++◌, length, slice_get, take, drop, zip}
use Rattle.std.specs.Prelude.{map, filter, flat_map, fold, take_while}
use Rattle.std.specs.List.{list_any}
use Rattle.std.specs.declared.cmp.Ordering.{Ordering}
use Rattle.std.specs.Ordering.{nat_cmp, int_cmp, int_eq, ordering_then, is_lt, is_eq}
use Rattle.grid_core.specs.declared.point.Point.{Point}
use Rattle.grid_core.specs.Vector.{cross_of, minus, point_cmp, point_eq}
use Rattle.grid_core.specs.Edge.{EdgeEnds}
use Rattle.grid_core.specs.RisingSet.{rising}

-- an edge with one of its two directions
pub record HalfEdge : Type 0 where
  pub origin : Point
  pub target : Point

-- the half-edge of the same edge in the other direction
abbrev pub twin : HalfEdge → HalfEdge
twin h = record { origin = h.target; target = h.origin }

-- by start, and at one start by end
abbrev pub half_edge_cmp : HalfEdge → HalfEdge → Ordering
half_edge_cmp g h = ordering_then (point_cmp g.origin h.origin) (point_cmp g.target h.target)

-- the two are one half-edge
abbrev pub half_edge_eq : HalfEdge → HalfEdge → Bool
half_edge_eq g h = is_eq (half_edge_cmp g h)

-- the half-edges: of each edge the one from its lesser end to its greater end, and that one's twin
abbrev pub half_edges : List EdgeEnds → List HalfEdge
half_edges es =
    flat_map
    (λ e. record { origin = e.a; target = e.b } ∷ record { origin = e.b; target = e.a } ∷ [])
    es

-- the neighbours of v: the ends of the half-edges that start at v
abbrev pub neighbours : List EdgeEnds → Point → List Point
neighbours es v = map (λ h. h.target) (filter (λ h. point_eq h.origin v) (half_edges es))

-- in which half a direction lies: 0 is right or straight up, 1 is left or straight down;
-- no way at all is no direction, and comes last
abbrev pub half_of : Point → ℕ
half_of d =
    if int_lt (pos 0) d.x || (int_eq d.x (pos 0) && int_lt (pos 0) d.y) then 0
    else if int_lt d.x (pos 0) || (int_eq d.x (pos 0) && int_lt d.y (pos 0)) then 1
    else 2

-- the order of directions, clockwise from straight up: by half, and in one half d is before e where
-- d x e is below 0
abbrev pub clockwise_cmp : Point → Point → Ordering
clockwise_cmp d e =
    ordering_then (nat_cmp (half_of d) (half_of e)) (int_cmp (cross_of d e) (pos 0))

-- the order of points around v: by their directions from v, and in one direction the lesser point
-- first
abbrev pub around_cmp : Point → Point → Point → Ordering
around_cmp v u w = ordering_then (clockwise_cmp (minus u v) (minus w v)) (point_cmp u w)

-- the neighbours of v, clockwise from straight up
abbrev pub around : List EdgeEnds → Point → List Point
around es v = rising (around_cmp v) (neighbours es v)

-- the neighbour of v that follows u: the first one after u, and after the last one the first of
-- all; u itself where v has no neighbour
abbrev pub next_around : List EdgeEnds → Point → Point → Point
next_around es v u =
    let after_u = filter (λ w. is_lt (around_cmp v u w)) (around es v) in
    unwrap_or (slice_get (after_u ++ around es v) 0) u

-- the half-edge that a walk takes after h: from the end of h to the neighbour that follows its start
abbrev pub next : List EdgeEnds → HalfEdge → HalfEdge
next es h = record { origin = h.target; target = next_around es h.target h.origin }

-- the n half-edges that a walk takes after h
unfoldable pub steps_after : List EdgeEnds → ℕ → HalfEdge → List HalfEdge
steps_after es zero h = []
steps_after es (suc n) h = next es h ∷ steps_after es n (next es h)

-- the walk from h until it is back: h, and the half-edges after it before h comes again. Where h is
-- one of the half-edges, it comes again after at most as many steps as there are half-edges
abbrev pub walk : List EdgeEnds → HalfEdge → List HalfEdge
walk es h = h ∷ take_while (λ g. not (half_edge_eq g h)) (steps_after es (length (half_edges es)) h)

-- the least of h and of the half-edges in a list
abbrev pub least_of : HalfEdge → List HalfEdge → HalfEdge
least_of h gs = fold (λ least g. if is_lt (half_edge_cmp g least) then g else least) h gs

-- the walk through h, from its least half-edge on
abbrev pub contour_walk : List EdgeEnds → HalfEdge → List HalfEdge
contour_walk es h = walk es (least_of h (walk es h))

-- twice the signed area of a closed walk: the sum of the cross products of neighbouring points, the
-- last with the first. It is above 0 where the walk runs anticlockwise around its face
abbrev pub area2_of : List Point → ℤ
area2_of vs = fold (λ sum w. sum +ℤ cross_of w.0 w.1) (pos 0) (zip vs (drop 1 vs ++ take 1 vs))

-- a contour as contracts see it: the start points of its half-edges, and twice its signed area
pub record BoundaryWalk : Type 0 where
  pub points : List Point
  pub area2 : ℤ

-- the contour of these start points
abbrev pub boundary_of : List Point → BoundaryWalk
boundary_of vs = record { points = vs; area2 = area2_of vs }

-- the contour through the half-edge from u to v; none where that isn't one of the half-edges
abbrev pub contour_of : List EdgeEnds → Point → Point → Option BoundaryWalk
contour_of es u v =
    let h : HalfEdge = record { origin = u; target = v } in
    if list_any (half_edge_eq h) (half_edges es)
    then Some (boundary_of (map (λ g. g.origin) (contour_walk es h)))
    else None

-- Places: where a query point lies among the vertices and edges of a drawing (vertical ray
-- shooting), and the vertical cell around it. A query point (x, y) stands for the point
-- (x / 256, y / 256), so coordinates of edges and vertices count 256 times.
use Rattle.std.specs.Prelude.{ℕ, ℤ, pos, ◌+ℤ◌, ◌-ℤ◌, ◌*ℤ◌, int_lt, int_le}
use Rattle.std.specs.Prelude.{Bool, true, not, ◌&&◌, ◌||◌, Option, Some, None, List, map, filter, fold, slice_get}
use Rattle.std.specs.Int.{int_div_euclid, int_min, int_max}
use Rattle.std.specs.declared.cmp.Ordering.{Ordering}
use Rattle.std.specs.Ordering.{int_cmp, int_eq, ordering_then}
use Rattle.grid_core.specs.declared.point.Point.{Point}
use Rattle.grid_core.specs.declared.place.Place.{Place}
use Rattle.grid_core.specs.declared.place.Place.TheVariants.{Vertex, OnEdge, Between}
use Rattle.grid_core.specs.declared.place.Cell.{Cell}
use Rattle.grid_core.specs.Vector.{minus, cross_of, point_eq}
use Rattle.grid_core.specs.Segment.{Segment}
use Rattle.grid_core.specs.Edge.{EdgeEnds, edge_cmp}
use Rattle.grid_core.specs.RisingSet.{rising}
use Rattle.grid_core.specs.Rounding.{hot, edges}

-- a grid point as a query point
abbrev pub query_point : Point → Point
query_point h = record { x = pos 256 *ℤ h.x; y = pos 256 *ℤ h.y }

-- the direction of an edge, from its lesser end to its greater end
abbrev pub edge_direction : EdgeEnds → Point
edge_direction e = minus e.b e.a

-- on which side of the line through an edge q lies: above 0 where q is left of it, seen from its
-- lesser end to its greater end, and so above it where it isn't vertical
abbrev pub side_of_edge : EdgeEnds → Point → ℤ
side_of_edge e q = cross_of (edge_direction e) (minus q (query_point e.a))

-- z is from one of two numbers to the other
abbrev pub is_between : ℤ → ℤ → ℤ → Bool
is_between a b z = int_le (int_min a b) z && int_le z (int_max a b)

-- q is a point of the edge, ends included
abbrev pub lies_on : Point → EdgeEnds → Bool
lies_on q e =
    int_eq (side_of_edge e q) (pos 0)
    && is_between (query_point e.a).x (query_point e.b).x q.x
    && is_between (query_point e.a).y (query_point e.b).y q.y

-- q's column is one of the edge's: from its lesser end's on, and before its greater end's.
-- A vertical edge has none
abbrev pub spans : Point → EdgeEnds → Bool
spans q e = int_le (query_point e.a).x q.x && int_lt q.x (query_point e.b).x

-- how high the edge is at q's column: this number over the width of the edge
abbrev pub height_at : Point → EdgeEnds → ℤ
height_at q e =
    (query_point e.a).y *ℤ (edge_direction e).x
    +ℤ (edge_direction e).y *ℤ (q.x -ℤ (query_point e.a).x)

-- two fractions of positive denominators, in order
abbrev pub ratio_cmp : ℤ → ℤ → ℤ → ℤ → Ordering
ratio_cmp m d n e = int_cmp (m *ℤ e) (n *ℤ d)

-- two edges by their heights at q's column
abbrev pub height_cmp : Point → EdgeEnds → EdgeEnds → Ordering
height_cmp q e f =
    ratio_cmp (height_at q e) (edge_direction e).x (height_at q f) (edge_direction f).x

-- two edges by their slopes
abbrev pub slope_cmp : EdgeEnds → EdgeEnds → Ordering
slope_cmp e f =
    ratio_cmp (edge_direction e).y (edge_direction e).x (edge_direction f).y (edge_direction f).x

-- from q upwards: the lower edge first, of equally high ones that of less slope, then the lesser
abbrev pub upwards_cmp : Point → EdgeEnds → EdgeEnds → Ordering
upwards_cmp q e f =
    ordering_then (height_cmp q e f) (ordering_then (slope_cmp e f) (edge_cmp e f))

-- from q downwards: the higher edge first, of equally high ones that of greater slope, then the
-- lesser
abbrev pub downwards_cmp : Point → EdgeEnds → EdgeEnds → Ordering
downwards_cmp q e f =
    ordering_then (height_cmp q f e) (ordering_then (slope_cmp f e) (edge_cmp e f))

-- the first member in an order, if there is a member
abbrev pub least_by : {A : Type 0} → (A → A → Ordering) → List A → Option A
least_by cmp xs = slice_get (rising cmp xs) 0

-- the nearest edge above q
abbrev pub edge_above : List EdgeEnds → Point → Option EdgeEnds
edge_above es q =
    least_by (upwards_cmp q) (filter (λ e. spans q e && int_lt (side_of_edge e q) (pos 0)) es)

-- the nearest edge below q
abbrev pub edge_below : List EdgeEnds → Point → Option EdgeEnds
edge_below es q =
    least_by (downwards_cmp q) (filter (λ e. spans q e && int_lt (pos 0) (side_of_edge e q)) es)

-- on the least edge that has q, or else between two
abbrev pub place_off_vertices : List EdgeEnds → Point → Option EdgeEnds → Place
place_off_vertices es q (Some e) = OnEdge e
place_off_vertices es q None = Between (edge_above es q) (edge_below es q)

-- at a vertex, or else where q lies among the edges
abbrev pub place_or_vertex : List EdgeEnds → Point → Option Point → Place
place_or_vertex es q (Some h) = Vertex h
place_or_vertex es q None = place_off_vertices es q (least_by edge_cmp (filter (lies_on q) es))

-- where q lies among vertices and edges
abbrev pub place_among : List Point → List EdgeEnds → Point → Place
place_among vs es q =
    place_or_vertex es q (slice_get (filter (λ h. point_eq (query_point h) q) vs) 0)

-- where q lies in the rounding of a live list
abbrev pub place_of : List Segment → Point → Place
place_of ss q = place_among (hot ss) (edges ss) q

-- the vertex's column is one of the edge's, its greater end's included: a vertex bounds a cell from
-- both sides, so here, unlike in spans, both end columns count
abbrev pub reaches : EdgeEnds → Point → Bool
reaches e h = int_le e.a.x h.x && int_le h.x e.b.x

-- the vertex is on the edge or below it; a missing edge, and an edge outside its own columns, bounds
-- nothing
abbrev pub is_at_most : Option EdgeEnds → Point → Bool
is_at_most None h = true
is_at_most (Some e) h = not (reaches e h) || int_le (side_of_edge e (query_point h)) (pos 0)

-- the vertex is on the edge or above it; a missing edge, and an edge outside its own columns, bounds
-- nothing
abbrev pub is_at_least : Option EdgeEnds → Point → Bool
is_at_least None h = true
is_at_least (Some e) h = not (reaches e h) || int_le (pos 0) (side_of_edge e (query_point h))

-- the number of the strip in which q lies: strip k has the columns from width times k up to, and
-- without, width times (k + 1)
abbrev pub strip_of : ℕ → Point → ℤ
strip_of width q = int_div_euclid q.x (pos 256 *ℤ pos width)

-- the columns of the vertices that lie on or between the two edges
abbrev pub columns_between : List Point → Option EdgeEnds → Option EdgeEnds → List ℤ
columns_between vs above below =
    map (λ h. h.x) (filter (λ h. is_at_most above h && is_at_least below h) vs)

-- the cell between two edges around q: it ends at the nearest columns left and right of q that have
-- a vertex on or between the two, and at the latest at the walls of q's strip
abbrev pub cell_between : ℕ → List Point → Point → Option EdgeEnds → Option EdgeEnds → Cell
cell_between width vs q above below =
    let columns = columns_between vs above below in
    let k = strip_of width q in
    record {
      above = above;
      below = below;
      left = fold int_max (pos width *ℤ k) (filter (λ x. int_le (pos 256 *ℤ x) q.x) columns);
      right = fold int_min (pos width *ℤ (k +ℤ pos 1))
          (filter (λ x. int_lt q.x (pos 256 *ℤ x)) columns);
    }

-- the cell in which q lies, for a q that is at no vertex and on no edge, in strips of this width
abbrev pub cell_among : ℕ → List Point → List EdgeEnds → Point → Cell
cell_among width vs es q = cell_between width vs q (edge_above es q) (edge_below es q)

-- the cell in the rounding of a live list
abbrev pub cell_of : ℕ → List Segment → Point → Cell
cell_of width ss q = cell_among width (hot ss) (edges ss) q

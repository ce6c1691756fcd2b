-- The snap rounding of a live list, from nothing: hot pixels with their counts, routes, edges and
-- bundles. After Guibas and Marimont, "Rounding Arrangements Dynamically" (1995, 1998), and Hobby,
-- "Practical Segment Intersection with Finite Precision Output" (1999). Half-open pixels, and
-- touches that count as crossings, are this project's own.
use Rattle.std.specs.Prelude.{ℕ, List, [], ◌∷◌, ◌++◌, map, filter, count_by}
use Rattle.std.specs.Prelude.{filter_map, flat_map, zip, drop, option_map, Option}
use Rattle.std.specs.List.{list_any}
use Rattle.std.specs.declared.cmp.Ordering.{Ordering}
use Rattle.std.specs.Ordering.{int_cmp}
use Rattle.grid_core.specs.declared.point.Point.{Point}
use Rattle.grid_core.specs.declared.point.Vertex.{Vertex}
use Rattle.grid_core.specs.Vector.{point_cmp, point_eq, dot_of}
use Rattle.grid_core.specs.Name.{Label}
use Rattle.grid_core.specs.Segment.{Segment, direction}
use Rattle.grid_core.specs.Edge.{EdgeEnds, edge_cmp, edge_eq, edge_between}
use Rattle.grid_core.specs.LiveList.{names}
use Rattle.grid_core.specs.Meets.{meets_pixel_of}
use Rattle.grid_core.specs.Crossing.{crossing_of, pixel_of}
use Rattle.grid_core.specs.RisingSet.{rising}

-- a segment with its route: the hot pixels that it passes through, from p to q
pub record RoutedSegment : Type 0 where
  pub ur : Segment
  pub points : List Point

-- an edge with its bundle: the names of the segments whose routes have it, in order
pub record BundledEdge : Type 0 where
  pub edge : EdgeEnds
  pub names : List Label

-- a snap rounding
pub record SnapRounding : Type 0 where
  pub routes : List RoutedSegment
  pub vertices : List Vertex
  pub edges : List BundledEdge

-- the ends of the segments, as often as they are ends
abbrev pub end_points : List Segment → List Point
end_points ss = flat_map (λ s. s.p ∷ s.q ∷ []) ss

-- the pixel of the crossing of two segments
abbrev pub crossing_pixel : Segment → Segment → Option Point
crossing_pixel s t = option_map pixel_of (crossing_of s t)

-- the pixels of the crossings, one for each pair of segments that cross
unfoldable pub crossing_pixels : List Segment → List Point
crossing_pixels [] = []
crossing_pixels (s ∷ ss) = filter_map (crossing_pixel s) ss ++ crossing_pixels ss

-- how many ends lie at h
abbrev pub ends_at : List Segment → Point → ℕ
ends_at ss h = count_by (point_eq h) (end_points ss)

-- how many pairs of segments cross in pixel h
abbrev pub crossings_at : List Segment → Point → ℕ
crossings_at ss h = count_by (point_eq h) (crossing_pixels ss)

-- the hot pixels: those with an end or a crossing, by x and then y
abbrev pub hot : List Segment → List Point
hot ss = rising point_cmp (end_points ss ++ crossing_pixels ss)

-- a hot pixel with its two counts
abbrev pub vertex_at : List Segment → Point → Vertex
vertex_at ss h = record { at = h; ends = ends_at ss h; crossings = crossings_at ss h }

-- the order along s: by the product of the centre with the direction
abbrev pub along_cmp : Segment → Point → Point → Ordering
along_cmp s g h = int_cmp (dot_of g (direction s)) (dot_of h (direction s))

-- the route of s: the hot pixels that s meets, in their order along s
abbrev pub route : List Segment → Segment → List Point
route ss s = rising (along_cmp s) (filter (meets_pixel_of s) (hot ss))

-- the edges from each point of a list to the next
abbrev pub edges_along : List Point → List EdgeEnds
edges_along vs = map (λ w. edge_between w.0 w.1) (zip vs (drop 1 vs))

-- the edges of the route of s
abbrev pub route_edges : List Segment → Segment → List EdgeEnds
route_edges ss s = edges_along (route ss s)

-- the edges of all routes, each once, in order
abbrev pub edges : List Segment → List EdgeEnds
edges ss = rising edge_cmp (flat_map (route_edges ss) ss)

-- the names of the segments whose routes have e, in order
abbrev pub bundle : List Segment → EdgeEnds → List Label
bundle ss e = names (filter (λ s. list_any (edge_eq e) (route_edges ss s)) ss)

-- the snap rounding of a live list
abbrev pub rounding_of : List Segment → SnapRounding
rounding_of ss =
    record {
      routes = map (λ s. record { ur = s; points = route ss s }) ss;
      vertices = map (vertex_at ss) (hot ss);
      edges = map (λ e. record { edge = e; names = bundle ss e }) (edges ss);
    }

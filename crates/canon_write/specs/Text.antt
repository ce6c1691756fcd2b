-- The text of an arrangement: version n and its snap rounding, a line for each segment, vertex and
-- edge.
-- Numbers are in decimal without leading zeros, fields are separated by one space, and each line
-- ends with a line feed.
use Rattle.std.specs.Prelude.{ℕ, List, ◌++◌, length, flat_map, codes, decimal}
use Rattle.grid_core.specs.declared.point.Vertex.{Vertex}
use Rattle.grid_core.specs.Segment.{Segment}
use Rattle.grid_core.specs.Rounding.{RoutedSegment, BundledEdge, SnapRounding, rounding_of}
use Rattle.seg_text.specs.Text.{name_text, point_text, spaced_point, spaced_name}

-- `f.k px py qx qy`
unfoldable pub segment_text : Segment → List ℕ
segment_text s = name_text s.name ++ spaced_point s.p ++ spaced_point s.q

-- `f.k px py qx qy route c x y ..`: a segment and the c points of its route
unfoldable pub segment_line : RoutedSegment → List ℕ
segment_line r =
    segment_text r.ur ++ codes " route " ++ decimal (length r.points)
    ++ flat_map spaced_point r.points ++ codes "\n"

-- `x y ends a crossings b`: a vertex and its two counts
unfoldable pub vertex_line : Vertex → List ℕ
vertex_line v =
    point_text v.at ++ codes " ends " ++ decimal v.ends
    ++ codes " crossings " ++ decimal v.crossings ++ codes "\n"

-- `x1 y1 x2 y2 names c f.k ..`: an edge and the c names of its bundle
unfoldable pub edge_line : BundledEdge → List ℕ
edge_line e =
    point_text e.edge.a ++ spaced_point e.edge.b
    ++ codes " names " ++ decimal (length e.names) ++ flat_map spaced_name e.names ++ codes "\n"

-- the segments, how many first
unfoldable pub segments_part : List RoutedSegment → List ℕ
segments_part routes =
    codes "segments " ++ decimal (length routes) ++ codes "\n" ++ flat_map segment_line routes

-- the vertices, how many first
unfoldable pub vertices_part : List Vertex → List ℕ
vertices_part vertices =
    codes "vertices " ++ decimal (length vertices) ++ codes "\n" ++ flat_map vertex_line vertices

-- the edges, how many first
unfoldable pub edges_part : List BundledEdge → List ℕ
edges_part edges =
    codes "edges " ++ decimal (length edges) ++ codes "\n" ++ flat_map edge_line edges

-- which version it is
unfoldable pub heading : ℕ → List ℕ
heading n = codes "arrangement " ++ decimal n ++ codes "\n"

-- the text of version n with this rounding
unfoldable pub picture_text : ℕ → SnapRounding → List ℕ
picture_text n picture =
    heading n
    ++ segments_part picture.routes ++ vertices_part picture.vertices ++ edges_part picture.edges
    ++ codes "end\n"

-- the text of version n with this live list
abbrev pub text_of : ℕ → List Segment → List ℕ
text_of n ss = picture_text n (rounding_of ss)

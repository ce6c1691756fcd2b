-- What is said to a query: what the rounding of a live list has at a place, of a segment or of an
-- edge, or the whole of it as text.
use Rattle.std.specs.Prelude.{ℕ, List, if◌then◌else◌, Option, Some, None}
use Rattle.std.specs.List.{list_any}
use Rattle.grid_core.specs.declared.point.Point.{Point}
use Rattle.grid_core.specs.declared.place.Place.{Place}
use Rattle.grid_core.specs.declared.place.Place.TheVariants.{Vertex as AtVertex, OnEdge as AtEdge, Between as AtNone}
use Rattle.grid_core.specs.Vector.{point_eq}
use Rattle.grid_core.specs.Name.{Label}
use Rattle.grid_core.specs.Segment.{Segment}
use Rattle.grid_core.specs.Edge.{EdgeEnds, edge_between, edge_eq}
use Rattle.grid_core.specs.Rounding.{hot, vertex_at, route, edges, bundle}
use Rattle.grid_core.specs.Places.{place_of}
use Rattle.grid_core.specs.Contours.{BoundaryWalk, contour_of}
use Rattle.hot_tile.specs.Tile.{segment_in}
use Rattle.canon_write.specs.Text.{text_of}
use Rattle.script_read.specs.declared.command.Query.{Query}
use Rattle.script_read.specs.declared.command.Query.TheVariants.{Locate, Route as AskRoute, Hot as AskHot, Bundle as AskBundle, Contour as AskContour, Show as AskShow}
use Rattle.script_read.specs.declared.reply.Said.{Said}
use Rattle.script_read.specs.declared.reply.Said.TheVariants.{Vertex, OnEdge, Between, Route, Unknown, Hot, Cold, Bundle, NoEdge, Contour, Show}

-- where a query point lies
abbrev pub place_said : Place → Said
place_said (AtVertex h) = Vertex h
place_said (AtEdge e) = OnEdge e
place_said (AtNone above below) = Between above below

-- the route of the segment of a name, if it is live
abbrev pub route_said : List Segment → Label → Option Segment → Said
route_said ss name None = Unknown name
route_said ss name (Some s) = Route name (route ss s)

-- the counts of a pixel, if it is hot
abbrev pub pixel_said : List Segment → Point → Said
pixel_said ss h = if list_any (point_eq h) (hot ss) then Hot (vertex_at ss h) else Cold h

-- the bundle of an edge, if it is one
abbrev pub bundle_said : List Segment → EdgeEnds → Said
bundle_said ss e = if list_any (edge_eq e) (edges ss) then Bundle e (bundle ss e) else NoEdge

-- the walk around a face, if there is one
abbrev pub contour_said : Option BoundaryWalk → Said
contour_said None = NoEdge
contour_said (Some w) = Contour (record { points = w.points; area2 = w.area2 })

-- what is said to a query of version n, which has this live list
abbrev pub answer : ℕ → List Segment → Query → Said
answer n ss (Locate at) = place_said (place_of ss at)
answer n ss (AskRoute name) = route_said ss name (segment_in ss name)
answer n ss (AskHot at) = pixel_said ss at
answer n ss (AskBundle a b) = bundle_said ss (edge_between a b)
answer n ss (AskContour a b) = contour_said (contour_of (edges ss) a b)
answer n ss AskShow = Show (text_of n ss)

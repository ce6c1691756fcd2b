-- Routes through a given list of pixels.
use Rattle.std.specs.Prelude.{List, map, filter}
use Rattle.grid_core.specs.declared.point.Point.{Point}
use Rattle.grid_core.specs.declared.point.Vertex.{Vertex}
use Rattle.grid_core.specs.Vector.{dot_of}
use Rattle.grid_core.specs.Segment.{Segment, direction}
use Rattle.grid_core.specs.Meets.{meets_pixel_of}
use Rattle.grid_core.specs.Rounding.{RoutedSegment, along_cmp}
use Rattle.grid_core.specs.RisingSet.{rising}
use Rattle.round_plain.specs.declared.routes.Step.{Step}

-- the pixels of vertices
abbrev pub pixels : List Vertex → List Point
pixels vs = map (λ v. v.at) vs

-- those of the pixels that s meets, in their order along s
abbrev pub route_among : List Point → Segment → List Point
route_among hs s = rising (along_cmp s) (filter (meets_pixel_of s) hs)

-- each segment with its route
abbrev pub routes_among : List Point → List Segment → List RoutedSegment
routes_among hs ss = map (λ s. record { ur = s; points = route_among hs s }) ss

-- private, as the code sorts: pixel h as a step along s, with the product of its centre with the
-- direction
abbrev pub step_along : Segment → Point → Step
step_along s h = record { product = dot_of h (direction s); pixel = h }

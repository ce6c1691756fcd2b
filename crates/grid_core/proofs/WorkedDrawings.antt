-- The definitions of the drawing, computed on small drawings that were worked out by hand.
use Rattle.std.proofs.Common.{◌≡◌, refl, ℕ}
use Rattle.std.specs.Prelude.{ℤ, pos, ◌-ℤ◌, true, false, List, [], ◌∷◌, Some, None}
use Rattle.grid_core.specs.declared.point.Point.{Point}
use Rattle.grid_core.specs.declared.point.Vertex.{Vertex}
use Rattle.grid_core.specs.Name.{Label}
use Rattle.grid_core.specs.Segment.{Segment, segment_of}
use Rattle.grid_core.specs.Meets.{meets_pixel_of}
use Rattle.grid_core.specs.Crossing.{RationalPoint, crossing_of, pixel_of}
use Rattle.grid_core.specs.Rounding.{RoutedSegment, BundledEdge, crossing_pixels, rounding_of}

-- ---- how the drawings are written

abbrev neg : ℕ → ℤ
neg n = pos 0 -ℤ pos n

abbrev point : ℤ → ℤ → Point
point x y = record { x = x; y = y }

-- a point right of the origin or above it
abbrev at : ℕ → ℕ → Point
at x y = point (pos x) (pos y)

-- the first editor's name with this serial
abbrev name : ℕ → Label
name serial = record { editor = 1; serial = serial }

abbrev segment : ℕ → Point → Point → Segment
segment serial a b = segment_of (name serial) a b

abbrev ratio : ℤ → ℤ → ℤ → RationalPoint
ratio num_x num_y den = record { num_x = num_x; num_y = num_y; den = den }

abbrev routed : Segment → List Point → RoutedSegment
routed s points = record { ur = s; points = points }

-- a hot pixel, the ends in it, the crossings in it
abbrev vertex : Point → ℕ → ℕ → Vertex
vertex h ends crossings = record { at = h; ends = ends; crossings = crossings }

abbrev bundled : Point → Point → List Label → BundledEdge
bundled a b names = record { edge = record { a = a; b = b }; names = names }

-- ---- crossings, and the pixels of crossings

-- in the middle between two pixels the right one has it
crossing-half :
    crossing_of (segment 1 (at 0 0) (at 5 2)) (segment 2 (at 0 2) (at 5 0))
    ≡ Some (ratio (pos 50) (pos 20) (pos 20))
crossing-half = refl

pixel-half : pixel_of (ratio (pos 50) (pos 20) (pos 20)) ≡ at 3 1
pixel-half = refl

crossing-sevenths :
    crossing_of (segment 1 (at 0 0) (at 5 2)) (segment 2 (at 2 1) (at 3 0))
    ≡ Some (ratio (pos 15) (pos 6) (pos 7))
crossing-sevenths = refl

pixel-sevenths : pixel_of (ratio (pos 15) (pos 6) (pos 7)) ≡ at 2 1
pixel-sevenths = refl

-- in the middle between two pixels left of 0 the right one has it
crossing-half_left_of_zero :
    crossing_of (segment 1 (point (neg 5) (pos 0)) (at 0 1)) (segment 2 (point (neg 5) (pos 1)) (at 0 0))
    ≡ Some (ratio (neg 25) (pos 5) (pos 10))
crossing-half_left_of_zero = refl

pixel-half_left_of_zero : pixel_of (ratio (neg 25) (pos 5) (pos 10)) ≡ point (neg 2) (pos 1)
pixel-half_left_of_zero = refl

-- an end on another segment is a crossing
crossing-touch :
    crossing_of (segment 1 (at 0 0) (at 10 0)) (segment 2 (at 5 0) (at 5 5))
    ≡ Some (ratio (pos 250) (pos 0) (pos 50))
crossing-touch = refl

pixel-touch : pixel_of (ratio (pos 250) (pos 0) (pos 50)) ≡ at 5 0
pixel-touch = refl

-- an overlap has no crossing
crossing-overlap : crossing_of (segment 1 (at 0 0) (at 10 0)) (segment 2 (at 5 0) (at 15 0)) ≡ None
crossing-overlap = refl

-- the lines meet outside the first segment
crossing-apart : crossing_of (segment 1 (at 0 0) (at 4 0)) (segment 2 (point (pos 5) (neg 1)) (at 5 1)) ≡ None
crossing-apart = refl

-- ---- segments and pixels

-- the segment has the lower left corner alone, which is in the pixel
meets-lower_left_corner : meets_pixel_of (segment 1 (at 2 1) (at 3 0)) (at 3 1) ≡ true
meets-lower_left_corner = refl

-- the segment has the lower right corner alone, which isn't in the pixel
meets-lower_right_corner : meets_pixel_of (segment 1 (at 3 0) (at 4 1)) (at 3 1) ≡ false
meets-lower_right_corner = refl

-- the segment has the upper left corner alone, which isn't in the pixel
meets-upper_left_corner : meets_pixel_of (segment 1 (at 3 0) (at 4 1)) (at 4 0) ≡ false
meets-upper_left_corner = refl

meets-end : meets_pixel_of (segment 1 (at 3 0) (at 4 1)) (at 4 1) ≡ true
meets-end = refl

meets-inside : meets_pixel_of (segment 1 (at 0 0) (at 5 2)) (at 4 1) ≡ true
meets-inside = refl

-- ---- whole drawings

-- one segment
abbrev simplest : List Segment
simplest =
    segment 1 (at 0 0) (at 10 0)
    ∷ []

rounding-simplest :
    rounding_of simplest
    ≡ record {
      routes =
          routed (segment 1 (at 0 0) (at 10 0)) (at 0 0 ∷ at 10 0 ∷ [])
          ∷ [];
      vertices =
          vertex (at 0 0) 1 0
          ∷ vertex (at 10 0) 1 0
          ∷ [];
      edges =
          bundled (at 0 0) (at 10 0) (name 1 ∷ [])
          ∷ [];
    }
unfolding crossing_pixels
rounding-simplest = refl

-- two segments cross at (2.5, 1), which is in pixel (3, 1)
abbrev half_exactly : List Segment
half_exactly =
    segment 1 (at 0 0) (at 5 2)
    ∷ segment 2 (at 0 2) (at 5 0)
    ∷ []

rounding-half_exactly :
    rounding_of half_exactly
    ≡ record {
      routes =
          routed (segment 1 (at 0 0) (at 5 2)) (at 0 0 ∷ at 3 1 ∷ at 5 2 ∷ [])
          ∷ routed (segment 2 (at 0 2) (at 5 0)) (at 0 2 ∷ at 3 1 ∷ at 5 0 ∷ [])
          ∷ [];
      vertices =
          vertex (at 0 0) 1 0
          ∷ vertex (at 0 2) 1 0
          ∷ vertex (at 3 1) 0 1
          ∷ vertex (at 5 0) 1 0
          ∷ vertex (at 5 2) 1 0
          ∷ [];
      edges =
          bundled (at 0 0) (at 3 1) (name 1 ∷ [])
          ∷ bundled (at 0 2) (at 3 1) (name 2 ∷ [])
          ∷ bundled (at 3 1) (at 5 0) (name 2 ∷ [])
          ∷ bundled (at 3 1) (at 5 2) (name 1 ∷ [])
          ∷ [];
    }
unfolding crossing_pixels
rounding-half_exactly = refl

-- a third segment has of pixel (3, 1) its lower left corner alone, so it meets that pixel
abbrev closed_corner : List Segment
closed_corner =
    segment 1 (at 0 0) (at 5 2)
    ∷ segment 2 (at 0 2) (at 5 0)
    ∷ segment 3 (at 2 1) (at 3 0)
    ∷ []

rounding-closed_corner :
    rounding_of closed_corner
    ≡ record {
      routes =
          routed (segment 1 (at 0 0) (at 5 2)) (at 0 0 ∷ at 2 1 ∷ at 3 1 ∷ at 5 2 ∷ [])
          ∷ routed (segment 2 (at 0 2) (at 5 0)) (at 0 2 ∷ at 2 1 ∷ at 3 1 ∷ at 5 0 ∷ [])
          ∷ routed (segment 3 (at 2 1) (at 3 0)) (at 2 1 ∷ at 3 1 ∷ at 3 0 ∷ [])
          ∷ [];
      vertices =
          vertex (at 0 0) 1 0
          ∷ vertex (at 0 2) 1 0
          ∷ vertex (at 2 1) 1 1
          ∷ vertex (at 3 0) 1 0
          ∷ vertex (at 3 1) 0 1
          ∷ vertex (at 5 0) 1 0
          ∷ vertex (at 5 2) 1 0
          ∷ [];
      edges =
          bundled (at 0 0) (at 2 1) (name 1 ∷ [])
          ∷ bundled (at 0 2) (at 2 1) (name 2 ∷ [])
          ∷ bundled (at 2 1) (at 3 1) (name 1 ∷ name 2 ∷ name 3 ∷ [])
          ∷ bundled (at 3 0) (at 3 1) (name 3 ∷ [])
          ∷ bundled (at 3 1) (at 5 0) (name 2 ∷ [])
          ∷ bundled (at 3 1) (at 5 2) (name 1 ∷ [])
          ∷ [];
    }
unfolding crossing_pixels
rounding-closed_corner = refl

-- a third segment passes the lower right corner of pixel (3, 1), so it doesn't meet that pixel
abbrev open_corner : List Segment
open_corner =
    segment 1 (at 0 0) (at 5 2)
    ∷ segment 2 (at 0 2) (at 5 0)
    ∷ segment 3 (at 3 0) (at 4 1)
    ∷ []

rounding-open_corner :
    rounding_of open_corner
    ≡ record {
      routes =
          routed (segment 1 (at 0 0) (at 5 2)) (at 0 0 ∷ at 3 1 ∷ at 4 1 ∷ at 5 2 ∷ [])
          ∷ routed (segment 2 (at 0 2) (at 5 0)) (at 0 2 ∷ at 3 1 ∷ at 4 1 ∷ at 5 0 ∷ [])
          ∷ routed (segment 3 (at 3 0) (at 4 1)) (at 3 0 ∷ at 4 1 ∷ [])
          ∷ [];
      vertices =
          vertex (at 0 0) 1 0
          ∷ vertex (at 0 2) 1 0
          ∷ vertex (at 3 0) 1 0
          ∷ vertex (at 3 1) 0 1
          ∷ vertex (at 4 1) 1 1
          ∷ vertex (at 5 0) 1 0
          ∷ vertex (at 5 2) 1 0
          ∷ [];
      edges =
          bundled (at 0 0) (at 3 1) (name 1 ∷ [])
          ∷ bundled (at 0 2) (at 3 1) (name 2 ∷ [])
          ∷ bundled (at 3 0) (at 4 1) (name 3 ∷ [])
          ∷ bundled (at 3 1) (at 4 1) (name 1 ∷ name 2 ∷ [])
          ∷ bundled (at 4 1) (at 5 0) (name 2 ∷ [])
          ∷ bundled (at 4 1) (at 5 2) (name 1 ∷ [])
          ∷ [];
    }
unfolding crossing_pixels
rounding-open_corner = refl

-- two segments overlap, and a third has an end on both
abbrev overlap_and_touch : List Segment
overlap_and_touch =
    segment 1 (at 0 0) (at 10 0)
    ∷ segment 2 (at 5 0) (at 15 0)
    ∷ segment 3 (at 5 0) (at 5 5)
    ∷ []

rounding-overlap_and_touch :
    rounding_of overlap_and_touch
    ≡ record {
      routes =
          routed (segment 1 (at 0 0) (at 10 0)) (at 0 0 ∷ at 5 0 ∷ at 10 0 ∷ [])
          ∷ routed (segment 2 (at 5 0) (at 15 0)) (at 5 0 ∷ at 10 0 ∷ at 15 0 ∷ [])
          ∷ routed (segment 3 (at 5 0) (at 5 5)) (at 5 0 ∷ at 5 5 ∷ [])
          ∷ [];
      vertices =
          vertex (at 0 0) 1 0
          ∷ vertex (at 5 0) 2 2
          ∷ vertex (at 5 5) 1 0
          ∷ vertex (at 10 0) 1 0
          ∷ vertex (at 15 0) 1 0
          ∷ [];
      edges =
          bundled (at 0 0) (at 5 0) (name 1 ∷ [])
          ∷ bundled (at 5 0) (at 5 5) (name 3 ∷ [])
          ∷ bundled (at 5 0) (at 10 0) (name 1 ∷ name 2 ∷ [])
          ∷ bundled (at 10 0) (at 15 0) (name 2 ∷ [])
          ∷ [];
    }
unfolding crossing_pixels
rounding-overlap_and_touch = refl

-- two segments between the same ends, the second drawn from right to left
abbrev same_ends_twice : List Segment
same_ends_twice =
    segment 1 (at 0 0) (at 4 0)
    ∷ segment 2 (at 4 0) (at 0 0)
    ∷ []

rounding-same_ends_twice :
    rounding_of same_ends_twice
    ≡ record {
      routes =
          routed (segment 1 (at 0 0) (at 4 0)) (at 0 0 ∷ at 4 0 ∷ [])
          ∷ routed (segment 2 (at 4 0) (at 0 0)) (at 0 0 ∷ at 4 0 ∷ [])
          ∷ [];
      vertices =
          vertex (at 0 0) 2 0
          ∷ vertex (at 4 0) 2 0
          ∷ [];
      edges =
          bundled (at 0 0) (at 4 0) (name 1 ∷ name 2 ∷ [])
          ∷ [];
    }
unfolding crossing_pixels
rounding-same_ends_twice = refl

-- two segments cross at (255.5, 0), which is in pixel (256, 0)
abbrev tile_border : List Segment
tile_border =
    segment 1 (at 250 0) (at 260 0)
    ∷ segment 2 (point (pos 255) (neg 1)) (at 256 1)
    ∷ []

rounding-tile_border :
    rounding_of tile_border
    ≡ record {
      routes =
          routed (segment 1 (at 250 0) (at 260 0)) (at 250 0 ∷ at 256 0 ∷ at 260 0 ∷ [])
          ∷ routed (segment 2 (point (pos 255) (neg 1)) (at 256 1)) (point (pos 255) (neg 1) ∷ at 256 0 ∷ at 256 1 ∷ [])
          ∷ [];
      vertices =
          vertex (at 250 0) 1 0
          ∷ vertex (point (pos 255) (neg 1)) 1 0
          ∷ vertex (at 256 0) 0 1
          ∷ vertex (at 256 1) 1 0
          ∷ vertex (at 260 0) 1 0
          ∷ [];
      edges =
          bundled (at 250 0) (at 256 0) (name 1 ∷ [])
          ∷ bundled (point (pos 255) (neg 1)) (at 256 0) (name 2 ∷ [])
          ∷ bundled (at 256 0) (at 256 1) (name 2 ∷ [])
          ∷ bundled (at 256 0) (at 260 0) (name 1 ∷ [])
          ∷ [];
    }
unfolding crossing_pixels
rounding-tile_border = refl

-- four segments cross in one point, which makes six pairs
abbrev star : List Segment
star =
    segment 1 (point (neg 3) (pos 0)) (at 3 0)
    ∷ segment 2 (point (pos 0) (neg 3)) (at 0 3)
    ∷ segment 3 (point (neg 3) (neg 3)) (at 3 3)
    ∷ segment 4 (point (neg 3) (pos 3)) (point (pos 3) (neg 3))
    ∷ []

rounding-star :
    rounding_of star
    ≡ record {
      routes =
          routed (segment 1 (point (neg 3) (pos 0)) (at 3 0)) (point (neg 3) (pos 0) ∷ at 0 0 ∷ at 3 0 ∷ [])
          ∷ routed (segment 2 (point (pos 0) (neg 3)) (at 0 3)) (point (pos 0) (neg 3) ∷ at 0 0 ∷ at 0 3 ∷ [])
          ∷ routed (segment 3 (point (neg 3) (neg 3)) (at 3 3)) (point (neg 3) (neg 3) ∷ at 0 0 ∷ at 3 3 ∷ [])
          ∷ routed (segment 4 (point (neg 3) (pos 3)) (point (pos 3) (neg 3)))
          (point (neg 3) (pos 3) ∷ at 0 0 ∷ point (pos 3) (neg 3) ∷ [])
          ∷ [];
      vertices =
          vertex (point (neg 3) (neg 3)) 1 0
          ∷ vertex (point (neg 3) (pos 0)) 1 0
          ∷ vertex (point (neg 3) (pos 3)) 1 0
          ∷ vertex (point (pos 0) (neg 3)) 1 0
          ∷ vertex (at 0 0) 0 6
          ∷ vertex (at 0 3) 1 0
          ∷ vertex (point (pos 3) (neg 3)) 1 0
          ∷ vertex (at 3 0) 1 0
          ∷ vertex (at 3 3) 1 0
          ∷ [];
      edges =
          bundled (point (neg 3) (neg 3)) (at 0 0) (name 3 ∷ [])
          ∷ bundled (point (neg 3) (pos 0)) (at 0 0) (name 1 ∷ [])
          ∷ bundled (point (neg 3) (pos 3)) (at 0 0) (name 4 ∷ [])
          ∷ bundled (point (pos 0) (neg 3)) (at 0 0) (name 2 ∷ [])
          ∷ bundled (at 0 0) (at 0 3) (name 2 ∷ [])
          ∷ bundled (at 0 0) (point (pos 3) (neg 3)) (name 4 ∷ [])
          ∷ bundled (at 0 0) (at 3 0) (name 1 ∷ [])
          ∷ bundled (at 0 0) (at 3 3) (name 3 ∷ [])
          ∷ [];
    }
unfolding crossing_pixels
rounding-star = refl

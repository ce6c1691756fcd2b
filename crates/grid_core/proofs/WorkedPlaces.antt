-- Places and cells in a drawing of three segments that was worked by hand: two from one end, and a
-- vertical one below them.
use Rattle.std.proofs.Common.{◌≡◌, refl, ℕ}
use Rattle.std.specs.Prelude.{ℤ, pos, ◌-ℤ◌, List, [], ◌∷◌, Some, None}
use Rattle.grid_core.specs.declared.point.Point.{Point}
use Rattle.grid_core.specs.declared.place.Place.TheVariants.{Vertex, OnEdge, Between}
use Rattle.grid_core.specs.Segment.{Segment, segment_of}
use Rattle.grid_core.specs.Edge.{EdgeEnds}
use Rattle.grid_core.specs.Rounding.{crossing_pixels}
use Rattle.grid_core.specs.Places.{place_of, cell_of}

abbrev neg : ℕ → ℤ
neg n = pos 0 -ℤ pos n

abbrev point : ℤ → ℤ → Point
point x y = record { x = x; y = y }

abbrev at : ℕ → ℕ → Point
at x y = point (pos x) (pos y)

abbrev segment : ℕ → Point → Point → Segment
segment serial a b = segment_of (record { editor = 1; serial = serial }) a b

abbrev edge : Point → Point → EdgeEnds
edge a b = record { a = a; b = b }

abbrev level : EdgeEnds
level = edge (at 0 0) (at 10 0)

abbrev rising_edge : EdgeEnds
rising_edge = edge (at 0 0) (at 10 10)

abbrev vertical : EdgeEnds
vertical = edge (point (pos 4) (neg 6)) (point (pos 4) (neg 2))

abbrev drawing : List Segment
drawing =
    segment 1 (at 0 0) (at 10 0)
    ∷ segment 2 (at 0 0) (at 10 10)
    ∷ segment 3 (point (pos 4) (neg 6)) (point (pos 4) (neg 2))
    ∷ []

at-vertex : place_of drawing (at 0 0) ≡ Vertex (at 0 0)
unfolding crossing_pixels
at-vertex = refl

on-level : place_of drawing (at 1280 0) ≡ OnEdge level
unfolding crossing_pixels
on-level = refl

in-wedge : place_of drawing (at 512 256) ≡ Between (Some rising_edge) (Some level)
unfolding crossing_pixels
in-wedge = refl

on-vertical : place_of drawing (point (pos 1024) (neg 1024)) ≡ OnEdge vertical
unfolding crossing_pixels
on-vertical = refl

-- a vertical edge is neither above nor below
below-vertical : place_of drawing (point (pos 1024) (neg 2048)) ≡ Between (Some level) None
unfolding crossing_pixels
below-vertical = refl

-- of two equally high edges above, the one of less slope
least-slope : place_of drawing (point (pos 0) (neg 256)) ≡ Between (Some level) None
unfolding crossing_pixels
least-slope = refl

-- of two equally high edges below, the one of greater slope
greatest-slope : place_of drawing (at 0 256) ≡ Between None (Some rising_edge)
unfolding crossing_pixels
greatest-slope = refl

-- the column of the right ends belongs to neither edge
at-right-ends : place_of drawing (at 2560 1280) ≡ Between None None
unfolding crossing_pixels
at-right-ends = refl

far-away : place_of drawing (point (neg 9999999999) (pos 9999999999)) ≡ Between None None
unfolding crossing_pixels
far-away = refl

cell-inside : cell_of 256 drawing (at 512 256)
    ≡ record { above = Some rising_edge; below = Some level; left = pos 0; right = pos 10 }
unfolding crossing_pixels
cell-inside = refl

-- the columns 4 and 10 have vertices below the edge
cell-below : cell_of 256 drawing (point (pos 1024) (neg 2048))
    ≡ record { above = Some level; below = None; left = pos 4; right = pos 10 }
unfolding crossing_pixels
cell-below = refl

cell-of-nothing : cell_of 256 [] (at 256 0)
    ≡ record { above = None; below = None; left = pos 0; right = pos 256 }
unfolding crossing_pixels
cell-of-nothing = refl

-- The definitions of contours, computed on small drawings that were worked out by hand.
use Rattle.std.proofs.Common.{◌≡◌, refl, ℕ}
use Rattle.std.specs.Prelude.{ℤ, pos, ◌-ℤ◌, List, [], ◌∷◌, Option, Some, None}
use Rattle.grid_core.specs.declared.point.Point.{Point}
use Rattle.grid_core.specs.Edge.{EdgeEnds}
use Rattle.grid_core.specs.Contours.{BoundaryWalk, around, next_around, contour_of, steps_after}

-- ---- how the drawings are written

abbrev neg : ℕ → ℤ
neg n = pos 0 -ℤ pos n

abbrev point : ℤ → ℤ → Point
point x y = record { x = x; y = y }

-- a point right of the origin or above it
abbrev at : ℕ → ℕ → Point
at x y = point (pos x) (pos y)

abbrev edge : Point → Point → EdgeEnds
edge a b = record { a = a; b = b }

-- a contour with its doubled area
abbrev contour : List Point → ℤ → Option BoundaryWalk
contour points area2 = Some (record { points = points; area2 = area2 })

-- ---- a triangle with a spur

abbrev triangle_with_spur : List EdgeEnds
triangle_with_spur =
    edge (at 0 0) (at 0 8)
    ∷ edge (at 0 0) (at 2 2)
    ∷ edge (at 0 0) (at 8 0)
    ∷ edge (at 0 8) (at 8 0)
    ∷ []

-- inside the triangle and along both sides of the spur
contour-inner :
    contour_of triangle_with_spur (at 0 0) (at 8 0)
    ≡ contour (at 0 0 ∷ at 2 2 ∷ at 0 0 ∷ at 8 0 ∷ at 0 8 ∷ []) (pos 64)
unfolding steps_after
contour-inner = refl

-- the same from the spur
contour-spur :
    contour_of triangle_with_spur (at 2 2) (at 0 0)
    ≡ contour (at 0 0 ∷ at 2 2 ∷ at 0 0 ∷ at 8 0 ∷ at 0 8 ∷ []) (pos 64)
unfolding steps_after
contour-spur = refl

-- around the triangle
contour-outer :
    contour_of triangle_with_spur (at 8 0) (at 0 0)
    ≡ contour (at 0 0 ∷ at 0 8 ∷ at 8 0 ∷ []) (neg 64)
unfolding steps_after
contour-outer = refl

contour-none : contour_of triangle_with_spur (at 0 0) (at 9 9) ≡ None
contour-none = refl

-- ---- one edge, walked there and back

contour-of_one_edge :
    contour_of (edge (at 0 0) (at 1 0) ∷ []) (at 1 0) (at 0 0)
    ≡ contour (at 0 0 ∷ at 1 0 ∷ []) (pos 0)
unfolding steps_after
contour-of_one_edge = refl

contour-of_none : contour_of [] (at 0 0) (at 1 0) ≡ None
contour-of_none = refl

-- ---- the eight directions around a vertex, and two neighbours in one direction

abbrev eight_spokes : List EdgeEnds
eight_spokes =
    edge (point (neg 1) (neg 1)) (at 0 0)
    ∷ edge (point (neg 1) (pos 0)) (at 0 0)
    ∷ edge (point (neg 1) (pos 1)) (at 0 0)
    ∷ edge (point (pos 0) (neg 1)) (at 0 0)
    ∷ edge (at 0 0) (at 0 1)
    ∷ edge (at 0 0) (point (pos 1) (neg 1))
    ∷ edge (at 0 0) (at 1 0)
    ∷ edge (at 0 0) (at 1 1)
    ∷ edge (at 0 0) (at 2 2)
    ∷ []

around-eight_spokes :
    around eight_spokes (at 0 0)
    ≡ at 0 1
    ∷ at 1 1
    ∷ at 2 2
    ∷ at 1 0
    ∷ point (pos 1) (neg 1)
    ∷ point (pos 0) (neg 1)
    ∷ point (neg 1) (neg 1)
    ∷ point (neg 1) (pos 0)
    ∷ point (neg 1) (pos 1)
    ∷ []
around-eight_spokes = refl

-- after the last comes the first
next-last : next_around eight_spokes (at 0 0) (point (neg 1) (pos 1)) ≡ at 0 1
next-last = refl

-- two in one direction: the lesser first
next-farther : next_around eight_spokes (at 0 0) (at 1 1) ≡ at 2 2
next-farther = refl
